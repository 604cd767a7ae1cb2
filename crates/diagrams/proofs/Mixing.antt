-- Choices put together from the positions of others, and what a set's remainders are.
use Rattle.std.proofs.Common.{◌≡◌, ℕ, zero, suc, ◌+◌, ◌*◌, ◌<◌, ◌≤◌, Bool, true, false, cond, eqb, ltb, ◌⊎◌, ◌↔◌, sym, refl, ap, ◌∙◌, subst, ap₂, inl, inr, ⊎_elim, arith}
use mathlib.Core.Path.{fun_ext}
use Rattle.std.proofs.lemmas.Bool.{eq-eqb, ne_eqb, lt-ltb, le-ltb, cond-true, cond-false, cases_lt, cases_eq, cases_order, cases_Bool}
use Rattle.theory.specs.Rounds.{bit, choice_of}
use Rattle.diagrams.specs.Making.{FromOn, half}
use Rattle.diagrams.specs.Diagram.{Choices, put_position, mixed, remainder, Depends, Part, RowOf}
use Rattle.diagrams.proofs.Canonical.{bit_choice}

-- a choice is told by its positions
pub choice_ext : (n : ℕ) (has has' : ℕ → Bool) → ((k : ℕ) → k < n → has k ≡ has' k) → choice_of n has ≡ choice_of n has'
unfolding choice_of
choice_ext zero has has' e = refl
choice_ext (suc n) has has' e =
    ap₂ (λ b c. cond b 1 0 + 2 * c) (e 0 (omega arith)) (choice_ext n (λ k. has (suc k)) (λ k. has' (suc k)) (λ k lt. e (suc k) (omega (arith, lt))))

pub bit_put_same : (p : ℕ) (v : Bool) (c : ℕ) → p < 16 → bit (put_position p v c) p ≡ v
unfolding put_position
bit_put_same p v c lt = bit_choice 16 p (λ k. cond (eqb k p) v (bit c k)) lt ∙ cond-true (eqb p p) v (bit c p) (eq-eqb p p refl)

pub bit_put_other : (p k : ℕ) (v : Bool) (c : ℕ) → k < 16 → (k ≡ p → ⊥) → bit (put_position p v c) k ≡ bit c k
unfolding put_position
bit_put_other p k v c lt ne = bit_choice 16 k (λ k. cond (eqb k p) v (bit c k)) lt ∙ cond-false (eqb k p) v (bit c k) (ne_eqb k p ne)

pub bit_mixed_low : (p a c k : ℕ) → k < 16 → k < p → bit (mixed p a c) k ≡ bit a k
unfolding mixed
bit_mixed_low p a c k lt low = bit_choice 16 k (λ k. cond (ltb k p) (bit a k) (bit c k)) lt ∙ cond-true (ltb k p) (bit a k) (bit c k) (lt-ltb k p low)

pub bit_mixed_high : (p a c k : ℕ) → k < 16 → p ≤ k → bit (mixed p a c) k ≡ bit c k
unfolding mixed
bit_mixed_high p a c k lt high = bit_choice 16 k (λ k. cond (ltb k p) (bit a k) (bit c k)) lt ∙ cond-false (ltb k p) (bit a k) (bit c k) (le-ltb k p high)

-- two choices made of tests are one if their positions are
pub same_choice : (has has' : ℕ → Bool) → ((k : ℕ) → k < 16 → bit (choice_of 16 has) k ≡ bit (choice_of 16 has') k) → choice_of 16 has ≡ choice_of 16 has'
same_choice has has' e = choice_ext 16 has has' (λ k lt. sym (bit_choice 16 k has lt) ∙ e k lt ∙ bit_choice 16 k has' lt)

module _ (s : Choices) (p : ℕ) (lt : p < 16) (from_on : FromOn s p) where
  -- the row at p itself
  abbrev pub top : Part
  top = record { from = p; rest = remainder s p 0 }

  half_from : (v : Bool) (c d : ℕ) → ((k : ℕ) → suc p ≤ k → k < 16 → bit c k ≡ bit d k) → half s p v c ≡ half s p v d
  half_from v c d e =
      from_on (put_position p v c) (put_position p v d)
      (λ k le hk. ⊎_elim
      (λ same. subst (λ j. bit (put_position p v c) j ≡ bit (put_position p v d) j) (sym same) (bit_put_same p v c lt ∙ sym (bit_put_same p v d lt)))
      (λ ne. bit_put_other p k v c hk ne ∙ e k (omega (arith, le, ne)) hk ∙ sym (bit_put_other p k v d hk ne)) (cases_eq k p))

  -- a row of a half is at a higher position
  higher : (v : Bool) (x : Part) → RowOf (half s p v) x → p < x.from
  higher v x row =
      ⊎_elim (λ h. h)
      (λ le. absurd (row.depends.1
      (ap (λ f. f (put_position x.from false row.depends.0)) row.left
      ∙ half_from v _ _ (λ k above hk.
      bit_mixed_high x.from row.fixed _ k hk (omega (arith, le, above)) ∙ bit_put_other x.from k false _ hk (λ e. omega (arith, e, le, above))
      ∙ sym (bit_put_other x.from k true _ hk (λ e. omega (arith, e, le, above))) ∙ sym (bit_mixed_high x.from row.fixed _ k hk (omega (arith, le, above))))
      ∙ ap (λ f. f (put_position x.from true row.depends.0)) (sym row.left))))
      (cases_lt p x.from)

  -- the remainder of a half is a remainder of the set
  half_remainder : (v : Bool) (q a : ℕ) → p < q → bit a p ≡ v → remainder (half s p v) q a ≡ remainder s q a
  unfolding put_position mixed
  half_remainder v q a above on =
      fun_ext (λ c. ap s (same_choice _ _ (λ k hk.
      ⊎_elim
      (λ e. subst (λ j. bit (put_position p v (mixed q a c)) j ≡ bit (mixed q a c) j) (sym e) (bit_put_same p v (mixed q a c) lt ∙ sym on ∙ sym (bit_mixed_low q a c p lt above)))
      (λ ne. bit_put_other p k v (mixed q a c) hk ne) (cases_eq k p))))

  half_remainder_put : (v : Bool) (q a : ℕ) → p < q → remainder (half s p v) q a ≡ remainder s q (put_position p v a)
  unfolding put_position mixed
  half_remainder_put v q a above =
      fun_ext (λ c. ap s (same_choice _ _ (λ k hk.
      ⊎_elim
      (λ e. subst (λ j. bit (put_position p v (mixed q a c)) j ≡ bit (mixed q (put_position p v a) c) j) (sym e)
      (bit_put_same p v (mixed q a c) lt ∙ sym (bit_put_same p v a lt) ∙ sym (bit_mixed_low q (put_position p v a) c p lt above)))
      (λ ne. bit_put_other p k v (mixed q a c) hk ne ∙ ⊎_elim
      (λ low. bit_mixed_low q a c k hk low ∙ sym (bit_put_other p k v a hk ne) ∙ sym (bit_mixed_low q (put_position p v a) c k hk low))
      (λ high. bit_mixed_high q a c k hk high ∙ sym (bit_mixed_high q (put_position p v a) c k hk high)) (cases_lt k q))
      (cases_eq k p))))

  from_half : (v : Bool) (x : Part) → RowOf (half s p v) x → RowOf s x
  from_half v x row = record {
    in_range = row.in_range;
    fixed = put_position p v row.fixed;
    left = row.left ∙ half_remainder_put v x.from row.fixed (higher v x row);
    depends = row.depends;
  }

  -- no row stands before p
  not_before : (x : Part) → RowOf s x → x.from < p → ⊥
  not_before x row before =
      row.depends.1
      (ap (λ f. f (put_position x.from false row.depends.0)) row.left
      ∙ from_on _ _ (λ k above hk.
      bit_mixed_high x.from row.fixed _ k hk (omega (arith, before, above)) ∙ bit_put_other x.from k false _ hk (λ e. omega (arith, e, before, above))
      ∙ sym (bit_put_other x.from k true _ hk (λ e. omega (arith, e, before, above))) ∙ sym (bit_mixed_high x.from row.fixed _ k hk (omega (arith, before, above))))
      ∙ ap (λ f. f (put_position x.from true row.depends.0)) (sym row.left))

  same_remainder : (a : ℕ) → remainder s p a ≡ remainder s p 0
  same_remainder a = fun_ext (λ c. from_on _ _ (λ k above hk. bit_mixed_high p a c k hk above ∙ sym (bit_mixed_high p 0 c k hk above)))

  -- the rows of a set are its own row at p, if it depends on p, and those of its two halves
  pub rows_split : (x : Part) → RowOf s x ↔ (((x ≡ top) × Depends (remainder s p 0) p) ⊎ (RowOf (half s p false) x ⊎ RowOf (half s p true) x))
  rows_split x = (to, back)
    where
      at_top : (q : ℕ) (rest : Choices) (a : ℕ) → q ≡ p → rest ≡ remainder s q a → rest ≡ remainder s p 0
      at_top q rest a e left = left ∙ ap (λ z. remainder s z a) e ∙ same_remainder a

      in_half : (v : Bool) → (row : RowOf s x) → p < x.from → bit row.fixed p ≡ v → RowOf (half s p v) x
      in_half v row above on = record {
        in_range = row.in_range;
        fixed = row.fixed;
        left = row.left ∙ sym (half_remainder v x.from row.fixed above on);
        depends = row.depends;
      }

      to : RowOf s x → ((x ≡ top) × Depends (remainder s p 0) p) ⊎ (RowOf (half s p false) x ⊎ RowOf (half s p true) x)
      to row =
          ⊎_elim
          (λ (e : x.from ≡ p).
          let r = at_top x.from x.rest row.fixed e row.left in
          inl ((λ i. record { from = e i; rest = r i }), subst (λ z. Depends z p) r (subst (λ z. Depends x.rest z) e row.depends)))
          (⊎_elim (λ before. absurd (not_before x row before))
          (λ above. inr (⊎_elim (λ on. inr (in_half true row above on)) (λ off. inl (in_half false row above off)) (cases_Bool (bit row.fixed p)))))
          (cases_order x.from p)

      back : ((x ≡ top) × Depends (remainder s p 0) p) ⊎ (RowOf (half s p false) x ⊎ RowOf (half s p true) x) → RowOf s x
      back (inl t) = subst (RowOf s) (sym t.0) (record { in_range = lt; fixed = 0; left = refl; depends = t.1 })
      back (inr (inl row)) = from_half false x row
      back (inr (inr row)) = from_half true x row

-- d has each position below 16 that c has
abbrev pub More : ℕ → ℕ → Type 0
More c d = (k : ℕ) → k < 16 → bit c k ≡ true → bit d k ≡ true

pub put_more : (k c : ℕ) → k < 16 → More c (put_position k true c)
put_more k c hk j hj on = ⊎_elim (λ e. subst (λ z. bit (put_position z true c) j ≡ true) e (bit_put_same j true c hj)) (λ ne. bit_put_other k j true c hj ne ∙ on) (cases_eq j k)
