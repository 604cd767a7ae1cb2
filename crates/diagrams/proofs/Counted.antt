-- A count is unique, and what outnumbers it is impossible.
use Rattle.std.proofs.Common.{◌≡◌, ℕ, zero, suc, ◌<◌, ◌≤◌, ◌↔◌, List, [], ◌∷◌, ◌++◌, length, sym, refl, ap, subst, ⊎_elim, arith, length-append}
use mathlib.Core.Logic.Iff
use mathlib.Core.List.Memᴰ
use mathlib.Core.List.{Memᴰ}
use Rattle.std.proofs.lemmas.Bool.{cases_eq}
use Rattle.theory.specs.Counting.{Apart, Counts, MoreThan}

module _ {A : Type 0} where
  split : (x : A) (ys : List A) → Memᴰ x ys → (front : List A) × (back : List A) × (ys ≡ front ++ (x ∷ back))
  split x [] m = absurd (Memᴰ.not-nil m)
  split x (y ∷ ys) m =
      ⊎_elim (λ e. ([], ys, ap (λ z. z ∷ ys) (sym e))) (λ m'. let r = split x ys m' in (y ∷ r.0, r.1, ap (λ zs. y ∷ zs) r.2)) (Memᴰ.cases_cons m)

  elsewhere : (x z : A) (front back : List A) → (z ≡ x → ⊥) → Memᴰ z (front ++ (x ∷ back)) → Memᴰ z (front ++ back)
  elsewhere x z front back ne m =
      ⊎_elim (Memᴰ.append_left back) (λ m'. ⊎_elim (λ e. absurd (ne e)) (Memᴰ.append_right front) (Memᴰ.cases_cons m')) (Memᴰ.append_cases front m)

  -- a list without repetition is no longer than a list that has all its things
  pub no_longer : (xs ys : List A) → Apart xs → ((x : A) → Memᴰ x xs → Memᴰ x ys) → length xs ≤ length ys
  no_longer [] ys ap' sub = omega arith
  no_longer (x ∷ xs) ys ap' sub =
      let s = split x ys (sub x (Memᴰ.head refl)) in
      let shorter : length xs ≤ length (s.0 ++ s.1) =
      no_longer xs (s.0 ++ s.1) ap'.1
      (λ z m. elsewhere x z s.0 s.1 (λ e. ap'.0 (Memᴰ.cast (sym e) m)) (subst (λ zs. Memᴰ z zs) s.2 (sub z (Memᴰ.tail m)))) in
      omega (arith, shorter, length-append s.0 s.1, ap length s.2, length-append s.0 (x ∷ s.1))

  pub counts_unique : (P : A → Type 0) (n k : ℕ) → Counts P n → Counts P k → n ≡ k
  counts_unique P n k c d =
      omega (arith, no_longer c.0 d.0 c.1 (λ x m. (d.2 x).1 ((c.2 x).0 m)), no_longer d.0 c.0 d.1 (λ x m. (c.2 x).1 ((d.2 x).0 m)), c.3, d.3)

  pub more_counts : (P : A → Type 0) (n k : ℕ) → Counts P n → MoreThan k P → k < n
  more_counts P n k c d = omega (arith, no_longer d.0 c.0 d.1 (λ x m. (c.2 x).1 (d.2 x m)), c.3, d.3)

  pub counts_iff : (P Q : A → Type 0) (n : ℕ) → ((x : A) → P x ↔ Q x) → Counts P n → Counts Q n
  counts_iff P Q n e c = (c.0, c.1, λ x. Iff.trans (c.2 x) (e x), c.3)

  -- the things f 0 to f (n - 1)
  listed : (ℕ → A) → ℕ → List A
  listed f zero = []
  listed f (suc n) = f n ∷ listed f n

  listed_from : (f : ℕ → A) (n : ℕ) (x : A) → Memᴰ x (listed f n) → (r : ℕ) × (r < n) × (x ≡ f r)
  unfolding listed
  listed_from f zero x m = absurd (Memᴰ.not-nil m)
  listed_from f (suc n) x m =
      ⊎_elim (λ e. (n, omega arith, e)) (λ m'. let p = listed_from f n x m' in (p.0, omega (arith, p.1), p.2)) (Memᴰ.cases_cons m)

  listed_has : (f : ℕ → A) (n r : ℕ) → r < n → Memᴰ (f r) (listed f n)
  unfolding listed
  listed_has f zero r lt = absurd (omega arith)
  listed_has f (suc n) r lt = ⊎_elim (λ e. Memᴰ.head (ap f e)) (λ ne. Memᴰ.tail (listed_has f n r (omega (arith, lt, ne)))) (cases_eq r n)

  listed_apart : (f : ℕ → A) (n : ℕ) → ((r s : ℕ) → r < n → s < n → f r ≡ f s → r ≡ s) → Apart (listed f n)
  unfolding listed
  listed_apart f zero inj = tt
  listed_apart f (suc n) inj = (
    λ m. let p = listed_from f n (f n) m in absurd (omega (arith, p.1, inj n p.0 (omega arith) (omega (arith, p.1)) p.2)),
    listed_apart f n (λ r s hr hs e. inj r s (omega (arith, hr)) (omega (arith, hs)) e),
  )

  listed_long : (f : ℕ → A) (n : ℕ) → length (listed f n) ≡ n
  unfolding listed
  listed_long f zero = refl
  listed_long f (suc n) = ap suc (listed_long f n)

  -- n different things are n
  pub counts_listed : (f : ℕ → A) (n : ℕ) → ((r s : ℕ) → r < n → s < n → f r ≡ f s → r ≡ s) → Counts (λ x. (r : ℕ) × (r < n) × (x ≡ f r)) n
  counts_listed f n inj = (listed f n, listed_apart f n inj, λ x. (listed_from f n x, λ p. Memᴰ.cast p.2 (listed_has f n p.0 p.1)), listed_long f n)

pub counts_below : (n : ℕ) → Counts (λ k. k < n) n
counts_below n =
    counts_iff (λ k. (r : ℕ) × (r < n) × (k ≡ r)) (λ k. k < n) n (λ k. (λ p. omega (arith, p.1, p.2), λ lt. (k, lt, refl))) (counts_listed (λ r. r) n (λ r s hr hs e. e))
