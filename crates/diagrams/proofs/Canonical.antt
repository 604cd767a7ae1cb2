-- Equal sets have one number: what reading a sound book's rows says determines the number.
use Rattle.std.proofs.Common.{◌≡◌, ℕ, zero, suc, ◌+◌, ◌*◌, ◌/◌, ◌%◌, ◌^◌, ◌<◌, ◌≤◌, Bool, true, false, cond, eqb, ◌⊎◌, List, sym, refl, ap, ◌∙◌, ap₂, inl, inr, ⊎_elim, arith}
use native.Mathlib.Nat.{div-div-eq-div-mul, pow-succ'}
use Rattle.std.proofs.lemmas.Bool.{eq-eqb, ne_eqb, cond-true, cond-false, cases_lt, true≢false, false≢true}
use Rattle.diagrams.specs.declared.Row.{Row}
use Rattle.theory.specs.Rounds.{bit, choice_of}
use Rattle.diagrams.specs.Diagram.{Sound, CanonicalRows, position_of, row_at, walk, member}

unit_lt : (b : Bool) → cond b 1 0 < 2
unit_lt true = omega arith
unit_lt false = omega arith

unit_bit : (b : Bool) → eqb (cond b 1 0) 1 ≡ b
unit_bit true = refl
unit_bit false = refl

pub choice_lt : (n : ℕ) (has : ℕ → Bool) → choice_of n has < 2 ^ n
unfolding choice_of
choice_lt zero has = omega arith
choice_lt (suc n) has = rw pow-succ' (omega (arith, choice_lt n (λ k. has (suc k)), unit_lt (has 0)))

bit_zero : (b : Bool) (m : ℕ) → bit (cond b 1 0 + 2 * m) 0 ≡ b
unfolding bit
bit_zero b m = ap (λ x. eqb x 1) {x = (cond b 1 0 + 2 * m) / 1 % 2} {y = cond b 1 0} (omega (arith, unit_lt b)) ∙ unit_bit b

bit_suc : (b : Bool) (m k : ℕ) → bit (cond b 1 0 + 2 * m) (suc k) ≡ bit m k
unfolding bit
bit_suc b m k =
    let halved : (cond b 1 0 + 2 * m) / 2 ≡ m = omega (arith, unit_lt b) in
    let x = cond b 1 0 + 2 * m in
    ap (λ z. eqb (z % 2) 1) {x = x / 2 ^ suc k} {y = m / 2 ^ k}
    (ap (λ z. x / z) (pow-succ' 2 k) ∙ sym (div-div-eq-div-mul x 2 (2 ^ k)) ∙ ap (λ z. z / 2 ^ k) halved)

pub bit_choice : (n k : ℕ) (has : ℕ → Bool) → k < n → bit (choice_of n has) k ≡ has k
unfolding choice_of
bit_choice zero k has h = absurd (omega arith)
bit_choice (suc n) zero has h = bit_zero (has 0) (choice_of n (λ k. has (suc k)))
bit_choice (suc n) (suc k) has h = bit_suc (has 0) (choice_of n (λ k. has (suc k))) k ∙ bit_choice n k (λ k. has (suc k)) (omega arith)

-- a test with position p set
unfoldable pub put : ℕ → Bool → (ℕ → Bool) → ℕ → Bool
put p v has j = cond (eqb j p) v (has j)

pub put_same : (p : ℕ) (v : Bool) (has : ℕ → Bool) → put p v has p ≡ v
unfolding put
put_same p v has = cond-true (eqb p p) v (has p) (eq-eqb p p refl)

pub put_other : (p j : ℕ) (v : Bool) (has : ℕ → Bool) → p < j → put p v has j ≡ has j
unfolding put
put_other p j v has h = cond-false (eqb j p) v (has j) (ne_eqb j p (λ e. omega (arith, e, h)))

-- a number that is no row, or a row whose position is the one asked
Cut : List Row → ℕ → ℕ → ℕ → Type 0
Cut rows count d n = (16 ≤ position_of rows n + d) ⊎ ((r : ℕ) × (n ≡ suc (suc r)) × (r < count) × ((row_at rows r).position + suc d ≡ 16))

module _ (rows : List Row) (count : ℕ) (sound : Sound rows count) where
  -- a walk that has enough steps says what any such walk says
  pub steady : (k l n : ℕ) (has : ℕ → Bool) → n < count + 2 → 16 ≤ position_of rows n + k → 16 ≤ position_of rows n + l → walk k rows n has ≡ walk l rows n has
  steady k l zero has h i j = refl
  steady k l (suc zero) has h i j = refl
  steady zero l (suc (suc r)) has h i j = absurd (omega (arith, (sound.ordered r (omega arith)).in_range))
  steady (suc k) zero (suc (suc r)) has h i j = absurd (omega (arith, (sound.ordered r (omega arith)).in_range))
  steady (suc k) (suc l) (suc (suc r)) has h i j =
      let lt : r < count = omega arith in
      let o = sound.ordered r lt in
      ap₂ (cond (has (row_at rows r).position))
      (steady k l (row_at rows r).with has o.held_with (omega (arith, o.higher_with)) (omega (arith, o.higher_with)))
      (steady k l (row_at rows r).without has o.held_without (omega (arith, o.higher_without)) (omega (arith, o.higher_without)))

  -- a number asks only for positions from its own on
  pub asks_from : (k n : ℕ) (has has' : ℕ → Bool) → n < count + 2 → ((p : ℕ) → position_of rows n ≤ p → p < 16 → has p ≡ has' p) → walk k rows n has ≡ walk k rows n has'
  asks_from k zero has has' h e = refl
  asks_from k (suc zero) has has' h e = refl
  asks_from zero (suc (suc r)) has has' h e = refl
  asks_from (suc k) (suc (suc r)) has has' h e =
      let lt : r < count = omega arith in
      let o = sound.ordered r lt in
      let p = (row_at rows r).position in
      ap (λ v. cond v (walk k rows (row_at rows r).with has) (walk k rows (row_at rows r).without has)) (e p (omega arith) o.in_range)
      ∙ ap₂ (cond (has' p))
      (asks_from k (row_at rows r).with has has' o.held_with (λ j a b. e j (omega (arith, a, o.higher_with)) b))
      (asks_from k (row_at rows r).without has has' o.held_without (λ j a b. e j (omega (arith, a, o.higher_without)) b))

  -- a choice belongs to a row when it has its position and belongs to with, or lacks it and belongs to without
  pub at_row : (r : ℕ) (has : ℕ → Bool) → r < count → walk 16 rows (suc (suc r)) has ≡ cond (has (row_at rows r).position) (walk 16 rows (row_at rows r).with has) (walk 16 rows (row_at rows r).without has)
  at_row r has lt =
      let o = sound.ordered r lt in
      ap₂ (cond (has (row_at rows r).position))
      (steady 15 16 (row_at rows r).with has o.held_with (omega (arith, o.higher_with)) (omega arith))
      (steady 15 16 (row_at rows r).without has o.held_without (omega (arith, o.higher_without)) (omega arith))

  -- setting a position below a number's own does not matter to it
  elsewhere : (p n : ℕ) (v : Bool) (has : ℕ → Bool) → n < count + 2 → p < position_of rows n → walk 16 rows n (put p v has) ≡ walk 16 rows n has
  elsewhere p n v has h lt = asks_from 16 n (put p v has) has h (λ j a b. put_other p j v has (omega (arith, a, lt)))

  pub half_with : (r : ℕ) (has : ℕ → Bool) → r < count → walk 16 rows (suc (suc r)) (put (row_at rows r).position true has) ≡ walk 16 rows (row_at rows r).with has
  half_with r has lt =
      let o = sound.ordered r lt in
      let p = (row_at rows r).position in
      at_row r (put p true has) lt ∙ cond-true _ _ _ (put_same p true has) ∙ elsewhere p (row_at rows r).with true has o.held_with o.higher_with

  pub half_without : (r : ℕ) (has : ℕ → Bool) → r < count → walk 16 rows (suc (suc r)) (put (row_at rows r).position false has) ≡ walk 16 rows (row_at rows r).without has
  half_without r has lt =
      let o = sound.ordered r lt in
      let p = (row_at rows r).position in
      at_row r (put p false has) lt ∙ cond-false _ _ _ (put_same p false has) ∙ elsewhere p (row_at rows r).without false has o.held_without o.higher_without

  cut : (d n : ℕ) → n < count + 2 → 16 ≤ position_of rows n + suc d → Cut rows count d n
  unfolding Cut
  cut d zero h i = inl (omega arith)
  cut d (suc zero) h i = inl (omega arith)
  cut d (suc (suc r)) h i =
      ⊎_elim (λ lt. inr (r, refl, omega arith, omega (arith, lt, i))) inl (cases_lt ((row_at rows r).position + d) 16)

  -- two numbers at no position
  ends : (a b : ℕ) → a < count + 2 → b < count + 2 → 16 ≤ position_of rows a + 0 → 16 ≤ position_of rows b + 0 → walk 16 rows a (λ _. false) ≡ walk 16 rows b (λ _. false) → a ≡ b
  ends zero zero ha hb i j e = refl
  ends zero (suc zero) ha hb i j e = absurd (false≢true e)
  ends (suc zero) zero ha hb i j e = absurd (true≢false e)
  ends (suc zero) (suc zero) ha hb i j e = refl
  ends (suc (suc r)) b ha hb i j e = absurd (omega (arith, (sound.ordered r (omega arith)).in_range))
  ends zero (suc (suc s)) ha hb i j e = absurd (omega (arith, (sound.ordered s (omega arith)).in_range))
  ends (suc zero) (suc (suc s)) ha hb i j e = absurd (omega (arith, (sound.ordered s (omega arith)).in_range))

  module _ (d : ℕ) (before : (a b : ℕ) → a < count + 2 → b < count + 2 → 16 ≤ position_of rows a + d → 16 ≤ position_of rows b + d → ((has : ℕ → Bool) → walk 16 rows a has ≡ walk 16 rows b has) → a ≡ b) where
    two_rows : (r s : ℕ) → r < count → s < count → (row_at rows r).position + suc d ≡ 16 → (row_at rows s).position + suc d ≡ 16
        → ((has : ℕ → Bool) → walk 16 rows (suc (suc r)) has ≡ walk 16 rows (suc (suc s)) has) → suc (suc r) ≡ suc (suc s)
    two_rows r s hr hs pr ps e =
        let o = sound.ordered r hr in
        let u = sound.ordered s hs in
        let at : (row_at rows r).position ≡ (row_at rows s).position = omega (arith, pr, ps) in
        let w : (row_at rows r).with ≡ (row_at rows s).with =
        before _ _ o.held_with u.held_with (omega (arith, o.higher_with, pr)) (omega (arith, u.higher_with, ps))
        (λ has. sym (half_with r has hr) ∙ e (put (row_at rows r).position true has) ∙ ap (λ p. walk 16 rows (suc (suc s)) (put p true has)) at ∙ half_with s has hs) in
        let wo : (row_at rows r).without ≡ (row_at rows s).without =
        before _ _ o.held_without u.held_without (omega (arith, o.higher_without, pr)) (omega (arith, u.higher_without, ps))
        (λ has. sym (half_without r has hr) ∙ e (put (row_at rows r).position false has) ∙ ap (λ p. walk 16 rows (suc (suc s)) (put p false has)) at ∙ half_without s has hs) in
        ap (λ n. suc (suc n)) (sound.apart r s hr hs (λ i. record { position = at i; without = wo i; with = w i }))

    row_and_later : (r b : ℕ) → r < count → b < count + 2 → (row_at rows r).position + suc d ≡ 16 → 16 ≤ position_of rows b + d
        → ((has : ℕ → Bool) → walk 16 rows (suc (suc r)) has ≡ walk 16 rows b has) → ⊥
    row_and_later r b hr hb pr pb e =
        let o = sound.ordered r hr in
        let p = (row_at rows r).position in
        let lt : p < position_of rows b = omega (arith, pr, pb) in
        o.differ (before _ _ o.held_without o.held_with (omega (arith, o.higher_without, pr)) (omega (arith, o.higher_with, pr))
        (λ has. sym (half_without r has hr) ∙ e (put p false has) ∙ elsewhere p b false has hb lt ∙ sym (elsewhere p b true has hb lt) ∙ sym (e (put p true has)) ∙ half_with r has hr))

    step : (a b : ℕ) → a < count + 2 → b < count + 2 → ((has : ℕ → Bool) → walk 16 rows a has ≡ walk 16 rows b has) → Cut rows count d a → Cut rows count d b → a ≡ b
    unfolding Cut
    step a b ha hb e (inl i) (inl j) = before a b ha hb i j e
    step a b ha hb e (inl i) (inr s) = absurd (row_and_later s.0 a s.2 ha s.3 i (λ has. ap (λ n. walk 16 rows n has) (sym s.1) ∙ sym (e has)))
    step a b ha hb e (inr r) (inl j) = absurd (row_and_later r.0 b r.2 hb r.3 j (λ has. ap (λ n. walk 16 rows n has) (sym r.1) ∙ e has))
    step a b ha hb e (inr r) (inr s) =
        r.1 ∙ two_rows r.0 s.0 r.2 s.2 r.3 s.3 (λ has. ap (λ n. walk 16 rows n has) (sym r.1) ∙ e has ∙ ap (λ n. walk 16 rows n has) s.1) ∙ sym s.1

  one_number : (d a b : ℕ) → a < count + 2 → b < count + 2 → 16 ≤ position_of rows a + d → 16 ≤ position_of rows b + d → ((has : ℕ → Bool) → walk 16 rows a has ≡ walk 16 rows b has) → a ≡ b
  one_number zero a b ha hb i j e = ends a b ha hb i j (e (λ _. false))
  one_number (suc d) a b ha hb i j e = step d (one_number d) a b ha hb e (cut d a ha i) (cut d b hb j)

  -- every choice of positions has a number, so choices below 2 ^ 16 are enough
  by_choices : (a b : ℕ) → a < count + 2 → b < count + 2 → ((c : ℕ) → c < 2 ^ 16 → member rows a c ≡ member rows b c) → (has : ℕ → Bool) → walk 16 rows a has ≡ walk 16 rows b has
  unfolding member
  by_choices a b ha hb e has =
      let c = choice_of 16 has in
      asks_from 16 a has (bit c) ha (λ p _ lt. sym (bit_choice 16 p has lt)) ∙ e c (choice_lt 16 has) ∙ asks_from 16 b (bit c) has hb (λ p _ lt. bit_choice 16 p has lt)

pub equal_sets_one_number : (rows : List Row) (count : ℕ) → Sound rows count → CanonicalRows rows count
equal_sets_one_number rows count sound a b ha hb e = one_number rows count sound 16 a b ha hb (omega arith) (omega arith) (by_choices rows count sound a b ha hb e)
