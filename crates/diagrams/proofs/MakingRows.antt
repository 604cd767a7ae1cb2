-- What the number of a row needs, by how it is come by.
use Rattle.std.proofs.Common.{◌≡◌, ℕ, suc, ◌+◌, ◌<◌, ◌≤◌, ◌≢◌, List, set, Ok, Err, sym, refl, ◌∙◌, subst, arith, length-set, get_or-set_other}
use Rattle.diagrams.specs.declared.Row.{Row}
use Rattle.diagrams.specs.declared.NoRoom.{NoRoom}
use Rattle.diagrams.specs.Diagram.{Sound, Ordered, blank, row_at}
use Rattle.diagrams.specs.Making.{Adds}
use Rattle.diagrams.specs.Books.{capacity}
use Rattle.diagrams.specs.Books.{KeptBook}
use Rattle.diagrams.specs.Applying.{row_with, Absent, Extends, Fit, Makes}
use Rattle.diagrams.proofs.Making.{same_halves, found, no_room, appended}
use Rattle.diagrams.proofs.Appended.{sound_appended}

pub extends_same : (rows : List Row) (count : ℕ) → KeptBook rows count → Extends rows count rows count
extends_same rows count kept = record { long = refl; stay = λ r lt. refl; more = omega arith; untouched = λ r le. refl; kept = kept }

module _ (rows : List Row) (count p a b : ℕ) where
  pub made_same : a ≡ b → Makes rows count rows count p a b (Ok a)
  made_same e rows₀ count₀ s h = same_halves rows₀ count₀ rows count s p a b h e

  pub made_found : (r : ℕ) → r < count → row_at rows r ≡ row_with p a b → Makes rows count rows count p a b (Ok (r + 2))
  made_found r lt at rows₀ count₀ s h = let e : suc (suc r) ≡ r + 2 = omega arith in subst (Adds rows₀ count₀ rows count s) e (found rows₀ count₀ rows count s p a b h r lt at)

  module _ (apart : a ≢ b) (new : Absent rows count (row_with p a b)) where
    pub made_none : (e : NoRoom) → capacity rows ≤ count → Makes rows count rows count p a b (Err e)
    made_none e le rows₀ count₀ s h = no_room rows₀ count₀ rows count s p a b h apart new (capacity rows) le

    module _ (kept : KeptBook rows count) (lt : count < capacity rows) (fit : Fit rows count p a b) where
      pub extends_made : Extends rows count (set rows count (row_with p a b)) (count + 1)
      extends_made = record {
        long = length-set rows count (row_with p a b);
        stay = λ r h. get_or-set_other rows count r (row_with p a b) blank (λ e. omega (arith, e, h));
        more = omega arith;
        untouched = λ r le. get_or-set_other rows count r (row_with p a b) blank (λ e. omega (arith, e, le, lt));
        kept = record {
          sound = let e : suc count ≡ count + 1 = omega arith in subst (Sound (set rows count (row_with p a b))) e (sound_appended rows count kept.sound (row_with p a b) lt ordered new fit.within);
          zero_behind = λ r lo hi. get_or-set_other rows count r (row_with p a b) blank (λ e. omega (arith, e, lo)) ∙ kept.zero_behind r (omega (arith, lo)) (omega (arith, hi, length-set rows count (row_with p a b)));
        };
      }
        where
          ordered : Ordered rows count (row_with p a b)
          ordered = record { in_range = fit.in_range; differ = apart; held_without = fit.held_without; held_with = fit.held_with; higher_without = fit.higher_without; higher_with = fit.higher_with }

      pub made_new : Makes rows count (set rows count (row_with p a b)) (count + 1) p a b (Ok (count + 2))
      made_new rows₀ count₀ s h =
          let e : suc count ≡ count + 1 = omega arith in
          let f : suc (suc count) ≡ count + 2 = omega arith in
          subst (λ z. Adds rows₀ count₀ (set rows count (row_with p a b)) z s (count + 2)) e
          (subst (Adds rows₀ count₀ (set rows count (row_with p a b)) (suc count) s) f
          (appended rows₀ count₀ rows count s p a b h apart new lt (λ c on. sym (h.with c) ∙ fit.within c (h.without c ∙ on))))
