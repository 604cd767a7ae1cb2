-- That rows are sound is a proposition, so a ghost field may hold it truncated and a proof may use it whole.
use Rattle.std.proofs.Common.{ℕ, true, List}
use mathlib.Core.HLevel.{¬_prop}
use mathlib.Core.Logic.{∥∥₁_elim}
use mathlib.Core.Bool.{Bool-set}
use native.Mathlib.Nat.{ℕ_set}
use native.Mathlib.Bridge.{le_prop}
use Rattle.diagrams.specs.declared.Row.{Row}
use Rattle.diagrams.specs.Diagram.{Sound, Ordered, member, put_position}

ordered_prop : (rows : List Row) (count : ℕ) (row : Row) → IsProp (Ordered rows count row)
ordered_prop rows count row x y = λ i. record {
  in_range = le_prop x.in_range y.in_range i;
  differ = ¬_prop x.differ y.differ i;
  held_without = le_prop x.held_without y.held_without i;
  held_with = le_prop x.held_with y.held_with i;
  higher_without = le_prop x.higher_without y.higher_without i;
  higher_with = le_prop x.higher_with y.higher_with i;
}

pub sound_prop : (rows : List Row) (count : ℕ) → IsProp (Sound rows count)
sound_prop rows count x y = λ i. record {
  within = le_prop x.within y.within i;
  ordered = λ r lt. ordered_prop rows count _ (x.ordered r lt) (y.ordered r lt) i;
  apart = λ r s hr hs e. ℕ_set r s (x.apart r s hr hs e) (y.apart r s hr hs e) i;
  growing = λ n c k h hk on. Bool-set (member rows n (put_position k true c)) true (x.growing n c k h hk on) (y.growing n c k h hk on) i;
}

pub sound_out : (rows : List Row) (count : ℕ) → ∥ Sound rows count ∥₁ → Sound rows count
sound_out rows count t = ∥∥₁_elim t (sound_prop rows count) (λ s. s)
