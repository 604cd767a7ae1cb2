-- One row more or less: the number of a set from the numbers of its two halves.
use Rattle.std.proofs.Common.{◌≡◌, ℕ, suc, ◌<◌, ◌≤◌, min, Bool, true, false, cond, ◌≢◌, ◌⊎◌, ◌↔◌, List, ◌∷◌, length, set, sym, refl, ap, ◌∙◌, subst, inl, inr, ⊎_elim, arith, length-set, get_or-set_other}
use mathlib.Core.Path.{fun_ext}
use mathlib.Core.List.Memᴰ
use Rattle.std.proofs.lemmas.Bool.{cases_eq}
use Rattle.diagrams.specs.declared.Row.{Row}
use Rattle.theory.specs.Counting.{MoreThan}
use Rattle.theory.specs.Rounds.{bit}
use Rattle.diagrams.specs.Diagram.{Choices, Part, RowOf, InUse, Sound, Ordered, Depends, blank, row_at, member, part_at, remainder, put_position, mixed}
use Rattle.diagrams.specs.Making.{Adds, Halves, half}
use Rattle.diagrams.specs.Applying.{row_with}
use Rattle.diagrams.proofs.Canonical.{at_row, equal_sets_one_number}
use Rattle.diagrams.proofs.Mixing.{rows_split, bit_put_same, bit_put_other, bit_mixed_high}
use Rattle.diagrams.proofs.InUse.{differ_or_agree, member_from_on, with_half, without_half, counts_in_use}
use Rattle.diagrams.proofs.Appended.{new_member, sound_appended, in_use_appended}

pub member_row : (rows : List Row) (count : ℕ) → Sound rows count → (r c : ℕ) → r < count
    → member rows (suc (suc r)) c ≡ cond (bit c (row_at rows r).position) (member rows (row_at rows r).with c) (member rows (row_at rows r).without c)
unfolding member
member_row rows count sound r c lt = at_row rows count sound r (bit c) lt

module _ (rows : List Row) (count : ℕ) (rows₂ : List Row) (count₂ : ℕ) (s : Choices) (p a b : ℕ) (h : Halves rows count rows₂ count₂ s p a b) where
  abbrev own : Part
  own = record { from = p; rest = remainder s p 0 }

  putting : (c : ℕ) (v : Bool) → bit c p ≡ v → s c ≡ half s p v c
  putting c v e =
      h.from_on c (put_position p v c)
      (λ k above hk. ⊎_elim (λ at. subst (λ z. bit c z ≡ bit (put_position p v c) z) (sym at) (e ∙ sym (bit_put_same p v c h.in_range))) (λ ne. sym (bit_put_other p k v c hk ne)) (cases_eq k p))

  by_half : (v : Bool) (c : ℕ) → bit c p ≡ v → s c ≡ cond v (member rows₂ b c) (member rows₂ a c)
  by_half true c e = putting c true e ∙ sym (h.with c)
  by_half false c e = putting c false e ∙ sym (h.without c)

  set_is : (c : ℕ) → s c ≡ cond (bit c p) (member rows₂ b c) (member rows₂ a c)
  set_is c = by_half (bit c p) c refl

  -- at position p the set is what it leaves
  left_over : (v : Bool) (c : ℕ) → remainder s p 0 (put_position p v c) ≡ half s p v c
  left_over v c = h.from_on (mixed p 0 (put_position p v c)) (put_position p v c) (λ k above hk. bit_mixed_high p 0 (put_position p v c) k hk above)

  split : (x : Part) → RowOf s x ↔ (((x ≡ own) × Depends (remainder s p 0) p) ⊎ (RowOf (half s p false) x ⊎ RowOf (half s p true) x))
  split x = rows_split s p h.in_range h.from_on x

  depends : a ≢ b → Depends (remainder s p 0) p
  depends ne =
      ⊎_elim
      (λ (d : (c : ℕ) × (c < 65536) × (member rows₂ a c ≢ member rows₂ b c)).
      let differs : remainder s p 0 (put_position p false d.0) ≡ remainder s p 0 (put_position p true d.0) → ⊥ =
      λ e. d.2 (h.without d.0 ∙ sym (left_over false d.0) ∙ e ∙ left_over true d.0 ∙ sym (h.with d.0)) in
      (d.0, differs))
      (λ same. absurd (ne (equal_sets_one_number rows₂ count₂ h.sound a b h.held_without h.held_with same)))
      (differ_or_agree 65536 (member rows₂ a) (member rows₂ b))

  -- one number for both halves: it is the set's
  pub same_halves : a ≡ b → Adds rows count rows₂ count₂ s a
  same_halves e = record {
    long = h.long;
    stay = h.stay;
    more = h.more;
    sound = h.sound;
    held = h.held_without;
    reads = λ c. sym (set_is c ∙ Union (bit c p) c);
    exact = λ x. (
      λ u. ⊎_elim inl (λ r. inr ((split x).1 (inr r))) ((h.exact x).0 u),
      ⊎_elim (λ u. (h.exact x).1 (inl u)) (λ r. ⊎_elim (λ t. absurd (no_row t.1)) (λ r'. (h.exact x).1 (inr r')) ((split x).0 r)),
    );
  }
    where
      Union : (v : Bool) (c : ℕ) → cond v (member rows₂ b c) (member rows₂ a c) ≡ member rows₂ a c
      Union true c = ap (λ n. member rows₂ n c) (sym e)
      Union false c = refl

      no_row : Depends (remainder s p 0) p → ⊥
      no_row d = d.1 (left_over false d.0 ∙ sym (h.without d.0) ∙ ap (λ n. member rows₂ n d.0) e ∙ h.with d.0 ∙ sym (left_over true d.0))

  -- the row is there already
  pub found : (r : ℕ) → r < count₂ → row_at rows₂ r ≡ row_with p a b → Adds rows count rows₂ count₂ s (suc (suc r))
  found r lt at = record {
    long = h.long;
    stay = h.stay;
    more = h.more;
    sound = h.sound;
    held = omega (arith, lt);
    reads = reads;
    exact = λ x. (
      λ u. ⊎_elim inl (λ r'. inr ((split x).1 (inr r'))) ((h.exact x).0 u),
      ⊎_elim (λ u. (h.exact x).1 (inl u)) (λ row. ⊎_elim (λ t. (r, lt, t.0 ∙ own_is)) (λ r'. (h.exact x).1 (inr r')) ((split x).0 row)),
    );
  }
    where
      reads : (c : ℕ) → member rows₂ (suc (suc r)) c ≡ s c
      reads c = member_row rows₂ count₂ h.sound r c lt ∙ ap (λ (w : Row). cond (bit c w.position) (member rows₂ w.with c) (member rows₂ w.without c)) at ∙ sym (set_is c)

      own_is : own ≡ part_at rows₂ r
      own_is =
          let e : p ≡ (row_at rows₂ r).position = ap (λ (w : Row). w.position) (sym at) in
          let f : s ≡ member rows₂ (suc (suc r)) = fun_ext (λ c. sym (reads c)) in
          λ i. record { from = e i; rest = remainder (f i) (e i) 0 }

  -- a row in use that is the set's own is the row of the two halves
  pub is_found : InUse rows₂ count₂ own → (r : ℕ) × (r < count₂) × (row_at rows₂ r ≡ row_with p a b)
  is_found u = (r, lt, λ i. record { position = at i; without = wo i; with = w i })
    where
      r : ℕ
      r = u.0

      lt : r < count₂
      lt = u.1

      o : Ordered rows₂ count₂ (row_at rows₂ r)
      o = h.sound.ordered r lt

      at : (row_at rows₂ r).position ≡ p
      at = ap (λ (x : Part). x.from) (sym u.2)

      -- the row's set is s
      is : (c : ℕ) → member rows₂ (suc (suc r)) c ≡ s c
      is c =
          member_from_on rows₂ count₂ h.sound (suc (suc r)) (omega (arith, lt)) c (mixed (row_at rows₂ r).position 0 c) (λ k above hk. sym (bit_mixed_high (row_at rows₂ r).position 0 c k hk above))
          ∙ ap (λ (x : Part). x.rest c) (sym u.2) ∙ h.from_on (mixed p 0 c) c (λ k above hk. bit_mixed_high p 0 c k hk above)

      half_is : (v : Bool) (c : ℕ) → half (member rows₂ (suc (suc r))) (row_at rows₂ r).position v c ≡ half s p v c
      half_is v c = is (put_position (row_at rows₂ r).position v c) ∙ ap (λ z. s (put_position z v c)) at

      wo : (row_at rows₂ r).without ≡ a
      wo = equal_sets_one_number rows₂ count₂ h.sound _ _ o.held_without h.held_without (λ c _. sym (ap (λ f. f c) (without_half rows₂ count₂ h.sound r lt)) ∙ half_is false c ∙ sym (h.without c))

      w : (row_at rows₂ r).with ≡ b
      w = equal_sets_one_number rows₂ count₂ h.sound _ _ o.held_with h.held_with (λ c _. sym (ap (λ f. f c) (with_half rows₂ count₂ h.sound r lt)) ∙ half_is true c ∙ sym (h.with c))

  module _ (apart : a ≢ b) (new : (r : ℕ) → r < count₂ → row_at rows₂ r ≡ row_with p a b → ⊥) where
    own_row : RowOf s own
    own_row = (split own).1 (inl (refl, depends apart))

    -- no room for the row: those wanted outnumber the rows
    pub no_room : (n : ℕ) → n ≤ count₂ → MoreThan n (λ x. InUse rows count x ⊎ RowOf s x)
    no_room n le =
        let c = counts_in_use rows₂ count₂ h.sound in (
          own ∷ c.0,
          (λ m. let f = is_found ((c.2 own).0 m) in new f.0 f.1 f.2, c.1),
          (λ x m. ⊎_elim (λ e. inr (subst (RowOf s) (sym e) own_row)) (λ m'. ⊎_elim inl (λ r. inr ((split x).1 (inr r))) ((h.exact x).0 ((c.2 x).0 m'))) (Memᴰ.cases_cons m)),
          omega (arith, le, c.3),
        )

    -- the row is put behind the others
    module _ (room : count₂ < min 65534 (length rows₂)) (growing : (c : ℕ) → half s p false c ≡ true → half s p true c ≡ true) where
      ordered : Ordered rows₂ count₂ (row_with p a b)
      ordered = record { in_range = h.in_range; differ = apart; held_without = h.held_without; held_with = h.held_with; higher_without = h.higher_without; higher_with = h.higher_with }

      within : (c : ℕ) → member rows₂ a c ≡ true → member rows₂ b c ≡ true
      within c on = h.with c ∙ growing c (sym (h.without c) ∙ on)

      appended_reads : (c : ℕ) → member (set rows₂ count₂ (row_with p a b)) (suc (suc count₂)) c ≡ s c
      appended_reads c = new_member rows₂ count₂ h.sound (row_with p a b) room ordered new within c ∙ sym (set_is c)

      appended_own : part_at (set rows₂ count₂ (row_with p a b)) count₂ ≡ own
      appended_own =
          let e : (row_at (set rows₂ count₂ (row_with p a b)) count₂).position ≡ p = ap (λ (w : Row). w.position) (lib.Seq.get_or-set_same rows₂ count₂ (row_with p a b) blank (omega (arith, room))) in
          let f : member (set rows₂ count₂ (row_with p a b)) (suc (suc count₂)) ≡ s = fun_ext appended_reads in
          λ i. record { from = e i; rest = remainder (f i) (e i) 0 }

      pub appended : Adds rows count (set rows₂ count₂ (row_with p a b)) (suc count₂) s (suc (suc count₂))
      appended = record {
        long = length-set rows₂ count₂ (row_with p a b) ∙ h.long;
        stay = λ r lt. get_or-set_other rows₂ count₂ r (row_with p a b) blank (λ e. omega (arith, e, lt, h.more)) ∙ h.stay r lt;
        more = omega (arith, h.more);
        sound = sound_appended rows₂ count₂ h.sound (row_with p a b) room ordered new within;
        held = omega arith;
        reads = appended_reads;
        exact = λ x. (
          λ u. ⊎_elim (λ old. ⊎_elim inl (λ r. inr ((split x).1 (inr r))) ((h.exact x).0 old)) (λ e. inr (subst (RowOf s) (sym (e ∙ appended_own)) own_row)) ((use' x).0 u),
          ⊎_elim (λ u. (use' x).1 (inl ((h.exact x).1 (inl u)))) (λ row. ⊎_elim (λ t. (use' x).1 (inr (t.0 ∙ sym appended_own))) (λ r. (use' x).1 (inl ((h.exact x).1 (inr r)))) ((split x).0 row)),
        );
      }
        where
          use' : (x : Part) → InUse (set rows₂ count₂ (row_with p a b)) (suc count₂) x ↔ (InUse rows₂ count₂ x ⊎ (x ≡ part_at (set rows₂ count₂ (row_with p a b)) count₂))
          use' x = in_use_appended rows₂ count₂ h.sound (row_with p a b) room ordered new within x
