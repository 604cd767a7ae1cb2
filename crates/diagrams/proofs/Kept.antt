-- Rows in use that stay keep their sets, and a sound book stays sound.
use Rattle.std.proofs.Common.{◌≡◌, ℕ, zero, suc, ◌+◌, ◌<◌, Bool, true, cond, List, length, sym, refl, ap, ◌∙◌, subst, ap₂, arith}
use Rattle.std.proofs.lemmas.Bool.{false≢true}
use Rattle.diagrams.specs.declared.Row.{Row}
use Rattle.theory.specs.Rounds.{bit}
use Rattle.diagrams.specs.Diagram.{Sound, Ordered, position_of, row_at, walk, member, put_position}
use Rattle.diagrams.specs.Books.{opening}

module _ (rows rows' : List Row) (count : ℕ) (sound : Sound rows count) (stay : (r : ℕ) → r < count → row_at rows' r ≡ row_at rows r) where
  pub walk_kept : (k n : ℕ) (has : ℕ → Bool) → n < count + 2 → walk k rows' n has ≡ walk k rows n has
  walk_kept k zero has h = refl
  walk_kept k (suc zero) has h = refl
  walk_kept zero (suc (suc r)) has h = refl
  walk_kept (suc k) (suc (suc r)) has h =
      let lt : r < count = omega arith in
      let o = sound.ordered r lt in
      ap (λ (w : Row). cond (has w.position) (walk k rows' w.with has) (walk k rows' w.without has)) (stay r lt)
      ∙ ap₂ (cond (has (row_at rows r).position)) (walk_kept k (row_at rows r).with has o.held_with) (walk_kept k (row_at rows r).without has o.held_without)

  pub member_kept : (n c : ℕ) → n < count + 2 → member rows' n c ≡ member rows n c
  unfolding member
  member_kept n c h = walk_kept 16 n (bit c) h

  pub position_kept : (n : ℕ) → n < count + 2 → position_of rows' n ≡ position_of rows n
  position_kept zero h = refl
  position_kept (suc zero) h = refl
  position_kept (suc (suc r)) h = ap (λ (w : Row). w.position) (stay r (omega arith))

  ordered_kept : (w : Row) → Ordered rows count w → Ordered rows' count w
  ordered_kept w o = record {
    in_range = o.in_range;
    differ = o.differ;
    held_without = o.held_without;
    held_with = o.held_with;
    higher_without = omega (arith, o.higher_without, position_kept w.without o.held_without);
    higher_with = omega (arith, o.higher_with, position_kept w.with o.held_with);
  }

  pub sound_kept : length rows' ≡ length rows → Sound rows' count
  sound_kept long = record {
    within = omega (arith, long, sound.within);
    ordered = λ r lt. subst (Ordered rows' count) (sym (stay r lt)) (ordered_kept (row_at rows r) (sound.ordered r lt));
    apart = λ r s hr hs e. sound.apart r s hr hs (sym (stay r hr) ∙ e ∙ stay s hs);
    growing = λ n c k h hk on. member_kept n (put_position k true c) h ∙ sound.growing n c k h hk (sym (member_kept n c h) ∙ on);
  }

pub sound_opening : (slice : List Row) → Sound (opening slice).rows 0
unfolding member
sound_opening slice = record {
  within = omega arith;
  ordered = λ r lt. absurd (omega (arith, lt));
  apart = λ r s hr hs e. absurd (omega (arith, hr));
  growing = grow;
}
  where
    grow : (n c k : ℕ) → n < 0 + 2 → k < 16 → member (opening slice).rows n c ≡ true → member (opening slice).rows n (put_position k true c) ≡ true
    grow zero c k h hk on = absurd (false≢true on)
    grow (suc zero) c k h hk on = refl
    grow (suc (suc n)) c k h hk on = absurd (omega (arith, h))
