-- A new row behind the last in use keeps a book sound.
use Rattle.std.proofs.Common.{◌≡◌, ℕ, suc, ◌+◌, ◌<◌, min, Bool, true, false, cond, ◌⊎◌, ◌↔◌, List, length, set, sym, refl, ap, ◌∙◌, subst, ap₂, inl, inr, ⊎_elim, arith, length-set, get_or-set_other, get_or-set_same}
use Rattle.std.proofs.lemmas.Bool.{cases_eq, false≢true}
use Rattle.diagrams.specs.declared.Row.{Row}
use Rattle.theory.specs.Rounds.{bit}
use Rattle.diagrams.specs.Diagram.{Sound, Ordered, blank, row_at, walk, member, put_position, Part, part_at, InUse}
use Rattle.diagrams.proofs.Canonical.{steady}
use Rattle.diagrams.proofs.Mixing.{put_more}
use Rattle.diagrams.proofs.Kept.{walk_kept, member_kept, position_kept}
use Rattle.diagrams.proofs.InUse.{part_kept}

grown : (b d w w' o o' : Bool) → (b ≡ true → d ≡ true) → (w ≡ true → w' ≡ true) → (o ≡ true → o' ≡ true) → (o ≡ true → w ≡ true) → cond b w o ≡ true → cond d w' o' ≡ true
grown true true w w' o o' f g h i on = g on
grown true false w w' o o' f g h i on = absurd (false≢true (f refl))
grown false true w w' o o' f g h i on = g (i on)
grown false false w w' o o' f g h i on = h on

module _ (rows : List Row) (count : ℕ) (sound : Sound rows count) (row : Row) (room : count < min 65534 (length rows)) (ordered : Ordered rows count row)
    (new : (r : ℕ) → r < count → row_at rows r ≡ row → ⊥)
    (within : (c : ℕ) → member rows row.without c ≡ true → member rows row.with c ≡ true) where
  abbrev rows' : List Row
  rows' = set rows count row

  stay : (r : ℕ) → r < count → row_at rows' r ≡ row_at rows r
  stay r lt = get_or-set_other rows count r row blank (λ e. omega (arith, e, lt))

  there : row_at rows' count ≡ row
  there = get_or-set_same rows count row blank (omega (arith, room))

  -- the set of the new row
  new_walk : (has : ℕ → Bool) → walk 16 rows' (suc (suc count)) has ≡ cond (has row.position) (walk 16 rows row.with has) (walk 16 rows row.without has)
  new_walk has =
      ap (λ (w : Row). cond (has w.position) (walk 15 rows' w.with has) (walk 15 rows' w.without has)) there
      ∙ ap₂ (cond (has row.position))
      (walk_kept rows rows' count sound stay 15 row.with has ordered.held_with ∙ steady rows count sound 15 16 row.with has ordered.held_with (omega (arith, ordered.higher_with)) (omega arith))
      (walk_kept rows rows' count sound stay 15 row.without has ordered.held_without ∙ steady rows count sound 15 16 row.without has ordered.held_without (omega (arith, ordered.higher_without)) (omega arith))

  pub new_member : (c : ℕ) → member rows' (suc (suc count)) c ≡ cond (bit c row.position) (member rows row.with c) (member rows row.without c)
  unfolding member
  new_member c = new_walk (bit c)

  still_ordered : (w : Row) → Ordered rows count w → Ordered rows' (suc count) w
  still_ordered w o = record {
    in_range = o.in_range;
    differ = o.differ;
    held_without = omega (arith, o.held_without);
    held_with = omega (arith, o.held_with);
    higher_without = omega (arith, o.higher_without, position_kept rows rows' count sound stay w.without o.held_without);
    higher_with = omega (arith, o.higher_with, position_kept rows rows' count sound stay w.with o.held_with);
  }

  all_ordered : (r : ℕ) → r < suc count → Ordered rows' (suc count) (row_at rows' r)
  all_ordered r lt =
      ⊎_elim (λ e. subst (λ z. Ordered rows' (suc count) (row_at rows' z)) (sym e) (subst (Ordered rows' (suc count)) (sym there) (still_ordered row ordered)))
      (λ ne. let old : r < count = omega (arith, lt, ne) in subst (Ordered rows' (suc count)) (sym (stay r old)) (still_ordered (row_at rows r) (sound.ordered r old)))
      (cases_eq r count)

  all_apart : (r s : ℕ) → r < suc count → s < suc count → row_at rows' r ≡ row_at rows' s → r ≡ s
  all_apart r s hr hs e =
      ⊎_elim
      (λ er. ⊎_elim (λ es. er ∙ sym es)
      (λ ns. let old : s < count = omega (arith, hs, ns) in absurd (new s old (sym (stay s old) ∙ sym e ∙ ap (row_at rows') er ∙ there))) (cases_eq s count))
      (λ nr. let old : r < count = omega (arith, hr, nr) in
      ⊎_elim (λ es. absurd (new r old (sym (stay r old) ∙ e ∙ ap (row_at rows') es ∙ there)))
      (λ ns. let older : s < count = omega (arith, hs, ns) in sound.apart r s old older (sym (stay r old) ∙ e ∙ stay s older)) (cases_eq s count))
      (cases_eq r count)

  new_growing : (c k : ℕ) → k < 16 → member rows' (suc (suc count)) c ≡ true → member rows' (suc (suc count)) (put_position k true c) ≡ true
  new_growing c k hk on =
      let d = put_position k true c in
      let p = row.position in
      let more_with : member rows row.with c ≡ true → member rows row.with d ≡ true = sound.growing row.with c k ordered.held_with hk in
      let more_without : member rows row.without c ≡ true → member rows row.without d ≡ true = sound.growing row.without c k ordered.held_without hk in
      new_member d ∙ grown (bit c p) (bit d p) (member rows row.with c) (member rows row.with d) (member rows row.without c) (member rows row.without d)
      (put_more k c hk p ordered.in_range) more_with more_without (within c) (sym (new_member c) ∙ on)

  all_growing : (n c k : ℕ) → n < suc count + 2 → k < 16 → member rows' n c ≡ true → member rows' n (put_position k true c) ≡ true
  all_growing n c k h hk on =
      ⊎_elim (λ e. subst (λ z. member rows' z (put_position k true c) ≡ true) (sym e) (new_growing c k hk (subst (λ z. member rows' z c ≡ true) e on)))
      (λ ne. let old : n < count + 2 = omega (arith, h, ne) in
      member_kept rows rows' count sound stay n (put_position k true c) old ∙ sound.growing n c k old hk (sym (member_kept rows rows' count sound stay n c old) ∙ on))
      (cases_eq n (suc (suc count)))

  pub sound_appended : Sound rows' (suc count)
  sound_appended = record { within = omega (arith, room, length-set rows count row); ordered = all_ordered; apart = all_apart; growing = all_growing }

  -- the rows in use are those before and the new one
  pub in_use_appended : (x : Part) → InUse rows' (suc count) x ↔ (InUse rows count x ⊎ (x ≡ part_at rows' count))
  in_use_appended x = (
    λ u. ⊎_elim (λ e. inr (u.2 ∙ ap (part_at rows') e)) (λ ne. let old : u.0 < count = omega (arith, u.1, ne) in inl (u.0, old, u.2 ∙ part_kept rows rows' count sound stay u.0 old)) (cases_eq u.0 count),
    ⊎_elim (λ u. (u.0, omega (arith, u.1), u.2 ∙ sym (part_kept rows rows' count sound stay u.0 u.1))) (λ e. (count, omega arith, e)),
  )
