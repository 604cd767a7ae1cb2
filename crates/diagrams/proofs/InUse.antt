-- The rows of a book as rows of sets: each is one row, and all rows of a number's set are in use.
use Rattle.std.proofs.Common.{◌≡◌, ℕ, zero, suc, ◌+◌, ◌<◌, ◌≤◌, Bool, true, false, cond, eqb, ◌≢◌, ◌⊎◌, List, sym, refl, ap, ◌∙◌, subst, inl, inr, ⊎_elim, arith}
use mathlib.Core.Path.{fun_ext}
use mathlib.Core.Bool.{Bool-discrete}
use Rattle.std.proofs.lemmas.Bool.{cases_eq}
use Rattle.diagrams.specs.declared.Row.{Row}
use Rattle.theory.specs.Counting.{Counts}
use Rattle.theory.specs.Rounds.{bit}
use Rattle.diagrams.specs.Diagram.{Sound, Choices, position_of, row_at, walk, member, put_position, mixed, remainder, Depends, Part, RowOf, part_at, InUse}
use Rattle.diagrams.proofs.Canonical.{put, half_with, half_without, bit_choice, asks_from, equal_sets_one_number}
use Rattle.diagrams.proofs.Mixing.{bit_mixed_high, rows_split}
use Rattle.diagrams.specs.Making.{FromOn, half}
use Rattle.diagrams.proofs.Counted.{counts_listed}
use Rattle.diagrams.proofs.Kept.{member_kept}

-- two sets differ at some choice below n, or agree there
pub differ_or_agree : (n : ℕ) (s t : Choices) → ((c : ℕ) × (c < n) × (s c ≢ t c)) ⊎ ((c : ℕ) → c < n → s c ≡ t c)
differ_or_agree zero s t = inr (λ c lt. absurd (omega (arith, lt)))
differ_or_agree (suc n) s t = next (differ_or_agree n s t) (Bool-discrete (s n) (t n))
  where
    next : ((c : ℕ) × (c < n) × (s c ≢ t c)) ⊎ ((c : ℕ) → c < n → s c ≡ t c) → Dec (s n ≡ t n) → ((c : ℕ) × (c < suc n) × (s c ≢ t c)) ⊎ ((c : ℕ) → c < suc n → s c ≡ t c)
    next (inl d) e = inl (d.0, omega (arith, d.1), d.2)
    next (inr same) (yes e) = inr (λ c lt. ⊎_elim (λ at. subst (λ z. s z ≡ t z) (sym at) e) (λ ne. same c (omega (arith, lt, ne))) (cases_eq c n))
    next (inr same) (no ne) = inl (n, omega arith, ne)

constant : (b : Bool) (x : Part) → RowOf (λ c. b) x → ⊥
constant b x row = row.depends.1 (ap (λ f. f (put_position x.from false row.depends.0)) row.left ∙ ap (λ f. f (put_position x.from true row.depends.0)) (sym row.left))

module _ (rows : List Row) (count : ℕ) (sound : Sound rows count) where
  pub member_from_on : (n : ℕ) → n < count + 2 → FromOn (member rows n) (position_of rows n)
  unfolding member
  member_from_on n h c d e = asks_from rows count sound 16 n (bit c) (bit d) h e

  -- with and without are the two halves of a row's set
  pub with_half : (r : ℕ) → r < count → half (member rows (suc (suc r))) (row_at rows r).position true ≡ member rows (row_at rows r).with
  unfolding put member put_position
  with_half r lt =
      let p = (row_at rows r).position in
      fun_ext (λ c. asks_from rows count sound 16 (suc (suc r)) (bit (put_position p true c)) (put p true (bit c)) (omega (arith, lt)) (λ k _ hk. bit_choice 16 k (λ k. cond (eqb k p) true (bit c k)) hk)
      ∙ half_with rows count sound r (bit c) lt)

  pub without_half : (r : ℕ) → r < count → half (member rows (suc (suc r))) (row_at rows r).position false ≡ member rows (row_at rows r).without
  unfolding put member put_position
  without_half r lt =
      let p = (row_at rows r).position in
      fun_ext (λ c. asks_from rows count sound 16 (suc (suc r)) (bit (put_position p false c)) (put p false (bit c)) (omega (arith, lt)) (λ k _ hk. bit_choice 16 k (λ k. cond (eqb k p) false (bit c k)) hk)
      ∙ half_without rows count sound r (bit c) lt)

  -- the rows of a row's set are the row itself and those of without and with
  pub rows_of_row : (r : ℕ) (x : Part) → r < count → RowOf (member rows (suc (suc r))) x
      → (x ≡ part_at rows r) ⊎ (RowOf (member rows (row_at rows r).without) x ⊎ RowOf (member rows (row_at rows r).with) x)
  rows_of_row r x lt row =
      let o = sound.ordered r lt in
      let split = (rows_split (member rows (suc (suc r))) (row_at rows r).position o.in_range (member_from_on (suc (suc r)) (omega (arith, lt))) x).0 row in
      ⊎_elim (λ t. inl t.0)
      (⊎_elim (λ a. inr (inl (subst (λ s. RowOf s x) (without_half r lt) a))) (λ b. inr (inr (subst (λ s. RowOf s x) (with_half r lt) b)))) split

  all_in_use : (d n : ℕ) (x : Part) → n < count + 2 → 16 ≤ position_of rows n + d → RowOf (member rows n) x → InUse rows count x
  unfolding member
  all_in_use d zero x h i row = absurd (constant false x row)
  all_in_use d (suc zero) x h i row = absurd (constant true x row)
  all_in_use zero (suc (suc r)) x h i row = absurd (omega (arith, i, (sound.ordered r (omega (arith, h))).in_range))
  all_in_use (suc d) (suc (suc r)) x h i row =
      let lt : r < count = omega (arith, h) in
      let o = sound.ordered r lt in
      ⊎_elim (λ e. (r, lt, e))
      (⊎_elim (all_in_use d (row_at rows r).without x o.held_without (omega (arith, i, o.higher_without))) (all_in_use d (row_at rows r).with x o.held_with (omega (arith, i, o.higher_with))))
      (rows_of_row r x lt row)

  -- every row of the set of a number that the book holds is in use
  pub rows_in_use : (n : ℕ) (x : Part) → n < count + 2 → RowOf (member rows n) x → InUse rows count x
  rows_in_use n x h row = all_in_use 16 n x h (omega arith) row

  same_set : (r s : ℕ) → r < count → s < count → part_at rows r ≡ part_at rows s → (c : ℕ) → member rows (suc (suc r)) c ≡ member rows (suc (suc s)) c
  same_set r s hr hs e c =
      let p = (row_at rows r).position in
      let at : p ≡ (row_at rows s).position = ap (λ (x : Part). x.from) e in
      member_from_on (suc (suc r)) (omega (arith, hr)) c (mixed p 0 c) (λ k above hk. sym (bit_mixed_high p 0 c k hk above))
      ∙ ap (λ (x : Part). x.rest c) e
      ∙ member_from_on (suc (suc s)) (omega (arith, hs)) (mixed (row_at rows s).position 0 c) c (λ k above hk. bit_mixed_high (row_at rows s).position 0 c k hk above)

  -- the rows in use, each counted once, are as many as the count tells
  pub counts_in_use : Counts (InUse rows count) count
  counts_in_use =
      counts_listed (part_at rows) count
      (λ r s hr hs e. omega (arith, equal_sets_one_number rows count sound (suc (suc r)) (suc (suc s)) (omega (arith, hr)) (omega (arith, hs)) (λ c _. same_set r s hr hs e c)))

  -- a row in use is a row of its own set
  pub own_row : (r : ℕ) → r < count → RowOf (member rows (suc (suc r))) (part_at rows r)
  own_row r lt = ⊎_elim differs (λ same. absurd (o.differ (equal_sets_one_number rows count sound _ _ o.held_without o.held_with same))) (differ_or_agree 65536 (member rows (row_at rows r).without) (member rows (row_at rows r).with))
    where
      o : Rattle.diagrams.specs.Diagram.Ordered rows count (row_at rows r)
      o = sound.ordered r lt

      p : ℕ
      p = (row_at rows r).position

      -- what the row leaves is its set
      rest_is : (v : Bool) (c : ℕ) → remainder (member rows (suc (suc r))) p 0 (put_position p v c) ≡ half (member rows (suc (suc r))) p v c
      rest_is v c = member_from_on (suc (suc r)) (omega (arith, lt)) (mixed p 0 (put_position p v c)) (put_position p v c) (λ k above hk. bit_mixed_high p 0 (put_position p v c) k hk above)

      differs : (c : ℕ) × (c < 65536) × (member rows (row_at rows r).without c ≢ member rows (row_at rows r).with c) → RowOf (member rows (suc (suc r))) (part_at rows r)
      differs d = record {
        in_range = o.in_range;
        fixed = 0;
        left = refl;
        depends = (d.0, λ e. d.2 (sym (ap (λ s. s d.0) (without_half r lt)) ∙ sym (rest_is false d.0) ∙ e ∙ rest_is true d.0 ∙ ap (λ s. s d.0) (with_half r lt)));
      }

-- rows that stay are the same rows of sets
pub part_kept : (rows rows' : List Row) (count : ℕ) → Sound rows count → ((r : ℕ) → r < count → row_at rows' r ≡ row_at rows r) → (r : ℕ) → r < count → part_at rows' r ≡ part_at rows r
part_kept rows rows' count sound stay r lt =
    let e : (row_at rows' r).position ≡ (row_at rows r).position = ap (λ (w : Row). w.position) (stay r lt) in
    let f : member rows' (suc (suc r)) ≡ member rows (suc (suc r)) = fun_ext (λ c. member_kept rows rows' count sound stay (suc (suc r)) c (omega (arith, lt))) in
    λ i. record { from = e i; rest = remainder (f i) (e i) 0 }
