-- The recursion of a join: a set's halves, made one after the other, are what its own row needs; and the half of a number is its child.
use Rattle.std.proofs.Common.{◌≡◌, ℕ, zero, suc, ◌+◌, ◌<◌, ◌≤◌, Bool, true, false, cond, eqb, List, sym, ap, ◌∙◌, subst, inl, inr, ⊎_elim, arith}
use mathlib.Core.Path.{fun_ext}
use Rattle.std.proofs.lemmas.Bool.{cases_eq, cases_lt, cond-true, cond-false, eq-eqb, ne_eqb}
use Rattle.diagrams.specs.declared.Row.{Row}
use Rattle.theory.specs.Rounds.{bit}
use Rattle.diagrams.specs.Diagram.{Choices, Part, RowOf, Sound, row_at, position_of, member, part_at, put_position}
use Rattle.diagrams.specs.Making.{Adds, Halves, FromOn, half, child}
use Rattle.diagrams.specs.Books.{together, union_or_intersection}
use Rattle.diagrams.specs.declared.Operation.{Operation}
use Rattle.diagrams.proofs.Kept.{member_kept}
use Rattle.diagrams.proofs.Mixing.{bit_put_same, bit_put_other, bit_mixed_high}
use Rattle.diagrams.proofs.InUse.{member_from_on, with_half, without_half, own_row}

-- no row of a set stands before the position from which on it makes a difference
not_before : (s : Choices) (p : ℕ) → FromOn s p → (x : Part) → RowOf s x → x.from < p → ⊥
not_before s p from_on x row before =
    row.depends.1
    (ap (λ f. f (put_position x.from false row.depends.0)) row.left
    ∙ from_on _ _ (λ k above hk.
    bit_mixed_high x.from row.fixed _ k hk (omega (arith, before, above)) ∙ bit_put_other x.from k false _ hk (λ e. omega (arith, e, before, above))
    ∙ sym (bit_put_other x.from k true _ hk (λ e. omega (arith, e, before, above))) ∙ sym (bit_mixed_high x.from row.fixed _ k hk (omega (arith, before, above))))
    ∙ ap (λ f. f (put_position x.from true row.depends.0)) (sym row.left))

-- so a number's position is no lower than what its set asks for
pub position_from : (rows : List Row) (count : ℕ) → Sound rows count → (n q : ℕ) → n < count + 2 → q ≤ 16 → FromOn (member rows n) q → q ≤ position_of rows n
position_from rows count sound zero q h le from_on = le
position_from rows count sound (suc zero) q h le from_on = le
position_from rows count sound (suc (suc r)) q h le from_on =
    let lt : r < count = omega (arith, h) in
    ⊎_elim (λ before. absurd (not_before (member rows (suc (suc r))) q from_on (part_at rows r) (own_row rows count sound r lt) before)) (λ ok. ok) (cases_lt (row_at rows r).position q)

pub half_from : (s : Choices) (p : ℕ) → p < 16 → FromOn s p → (v : Bool) → FromOn (half s p v) (suc p)
half_from s p lt from_on v c d e =
    from_on (put_position p v c) (put_position p v d)
    (λ k le hk. ⊎_elim
    (λ same. subst (λ j. bit (put_position p v c) j ≡ bit (put_position p v d) j) (sym same) (bit_put_same p v c lt ∙ sym (bit_put_same p v d lt)))
    (λ ne. bit_put_other p k v c hk ne ∙ e k (omega (arith, le, ne)) hk ∙ sym (bit_put_other p k v d hk ne)) (cases_eq k p))

pub halves_made : (rows : List Row) (count : ℕ) (rows₁ : List Row) (count₁ : ℕ) (rows₂ : List Row) (count₂ : ℕ) (s : Choices) (p a b : ℕ) → p < 16 → FromOn s p
    → Adds rows count rows₁ count₁ (half s p false) a → Adds rows₁ count₁ rows₂ count₂ (half s p true) b → Halves rows count rows₂ count₂ s p a b
halves_made rows count rows₁ count₁ rows₂ count₂ s p a b lt from_on left right =
    let without : (c : ℕ) → member rows₂ a c ≡ half s p false c = λ c. member_kept rows₁ rows₂ count₁ left.sound right.stay a c left.held ∙ left.reads c in
    let held : a < count₂ + 2 = omega (arith, left.held, right.more) in
    record {
      in_range = lt;
      from_on = from_on;
      long = right.long ∙ left.long;
      stay = λ r h. right.stay r (omega (arith, h, left.more)) ∙ left.stay r h;
      more = omega (arith, left.more, right.more);
      sound = right.sound;
      held_without = held;
      held_with = right.held;
      higher_without = position_from rows₂ count₂ right.sound a (suc p) held (omega (arith, lt)) (λ c d e. without c ∙ half_from s p lt from_on false c d e ∙ sym (without d));
      higher_with = position_from rows₂ count₂ right.sound b (suc p) right.held (omega (arith, lt)) (λ c d e. right.reads c ∙ half_from s p lt from_on true c d e ∙ sym (right.reads d));
      without = without;
      with = right.reads;
      exact = λ x. (
        λ u. ⊎_elim (λ v. ⊎_elim inl (λ r. inr (inl r)) ((left.exact x).0 v)) (λ r. inr (inr r)) ((right.exact x).0 u),
        ⊎_elim (λ u. (right.exact x).1 (inl ((left.exact x).1 (inl u)))) (⊎_elim (λ r. (right.exact x).1 (inl ((left.exact x).1 (inr r)))) (λ r. (right.exact x).1 (inr r))),
      );
    }

module _ (rows : List Row) (count : ℕ) (sound : Sound rows count) (p : ℕ) where
  row_half : (r : ℕ) (v : Bool) → r < count → half (member rows (suc (suc r))) (row_at rows r).position v ≡ member rows (cond v (row_at rows r).with (row_at rows r).without)
  row_half r true lt = with_half rows count sound r lt
  row_half r false lt = without_half rows count sound r lt

  later_half : (n : ℕ) (v : Bool) → n < count + 2 → p < position_of rows n → half (member rows n) p v ≡ member rows n
  later_half n v h later = fun_ext (λ c. member_from_on rows count sound n h (put_position p v c) c (λ k above hk. bit_put_other p k v c hk (λ e. omega (arith, e, above, later))))

  pub child_half : (n : ℕ) (v : Bool) → n < count + 2 → p < 16 → p ≤ position_of rows n → half (member rows n) p v ≡ member rows (child rows p n v)
  child_half zero v h lt le = later_half 0 v h lt
  child_half (suc zero) v h lt le = later_half 1 v h lt
  child_half (suc (suc r)) v h lt le =
      ⊎_elim
      (λ (e : (row_at rows r).position ≡ p). subst (λ z. half (member rows (suc (suc r))) z v ≡ member rows (cond v (row_at rows r).with (row_at rows r).without)) e (row_half r v (omega (arith, h)))
      ∙ ap (member rows) (sym (cond-true (eqb (row_at rows r).position p) _ (suc (suc r)) (eq-eqb _ _ e))))
      (λ ne. later_half (suc (suc r)) v h (omega (arith, le, ne)) ∙ ap (member rows) (sym (cond-false (eqb (row_at rows r).position p) _ (suc (suc r)) (ne_eqb _ _ ne))))
      (cases_eq (row_at rows r).position p)

  -- the half of a join is the join of the halves
  pub join_half : (op : Operation) (x y : ℕ) (v : Bool) → x < count + 2 → y < count + 2 → p < 16 → p ≤ position_of rows x → p ≤ position_of rows y
      → half (union_or_intersection op rows x y) p v ≡ union_or_intersection op rows (child rows p x v) (child rows p y v)
  join_half op x y v hx hy lt lx ly =
      let ex = child_half x v hx lt lx in
      let ey = child_half y v hy lt ly in
      λ i c. together op (ex i c) (ey i c)
