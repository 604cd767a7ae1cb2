-- What is left where a set was made, and where its rows did not fit.
use Rattle.std.proofs.Common.{◌≡◌, ℕ, ◌<◌, ◌≤◌, List, ◌∙◌, ⊎_elim, arith}
use mathlib.Core.Logic.{∥∥₁_elim}
use native.Mathlib.Nat.{ℕ_set}
use Rattle.std.proofs.lemmas.Bool.{cases_lt}
use Rattle.register.specs.Rows.{Cleared}
use Rattle.diagrams.specs.declared.Row.{Row}
use Rattle.diagrams.specs.Diagram.{Choices, RowOf, InUse, Sound, blank, row_at}
use Rattle.diagrams.specs.Making.{Adds}
use Rattle.diagrams.specs.Books.{Keeps, Grows, Wanted, capacity, KeptBook, book_of}
use Rattle.diagrams.specs.Applying.{Extends}
use Rattle.diagrams.proofs.Counted.{counts_iff}
use Rattle.diagrams.proofs.Kept.{sound_kept}
use Rattle.diagrams.proofs.InUse.{counts_in_use}
use Rattle.diagrams.proofs.SoundProp.{sound_prop}

row_set : (x y : Row) (p q : x ≡ y) → p ≡ q
row_set x y p q = λ i j. record {
  position = ℕ_set x.position y.position (λ k. (p k).position) (λ k. (q k).position) i j;
  without = ℕ_set x.without y.without (λ k. (p k).without) (λ k. (q k).without) i j;
  with = ℕ_set x.with y.with (λ k. (p k).with) (λ k. (q k).with) i j;
}

kept_prop : (rows : List Row) (count : ℕ) → IsProp (KeptBook rows count)
kept_prop rows count x y = λ i. record {
  sound = sound_prop rows count x.sound y.sound i;
  zero_behind = λ r lo hi. row_set (row_at rows r) blank (x.zero_behind r lo hi) (y.zero_behind r lo hi) i;
}

-- what the book's ghost field holds truncated, whole
pub kept_out : (rows : List Row) (count : ℕ) → ∥ KeptBook rows count ∥₁ → KeptBook rows count
kept_out rows count t = ∥∥₁_elim t (kept_prop rows count) (λ k. k)

module _ (rows : List Row) (count : ℕ) (rows' : List Row) (count' : ℕ) (ext : Extends rows count rows' count') where
  pub keeps_made : Keeps (book_of rows count) (book_of rows' count')
  keeps_made = record { long = ext.long; stay = ext.stay; zero_behind = λ r lo hi. ext.kept.zero_behind r lo (omega (arith, hi, ext.long)); untouched = ext.untouched }

  -- the rows in use are those before and the rows of the set
  pub made_grows : (s : Choices) (n : ℕ) → Adds rows count rows' count' s n → Grows (book_of rows count) (book_of rows' count') (RowOf s)
  made_grows s n t = record {
    keeps = keeps_made;
    fits = omega (arith, ext.kept.sound.within, ext.long);
    more = ext.more;
    counted = counts_iff (InUse rows' count') (Wanted (book_of rows count) (RowOf s)) count' t.exact (counts_in_use rows' count' t.sound);
    exact = t.exact;
    sound = t.sound;
  }

  module _ (sound : Sound rows count) (rows'' : List Row) (cl : Cleared rows' count count' blank rows'') where
    stay'' : (r : ℕ) → r < count → row_at rows'' r ≡ row_at rows r
    stay'' r lt = cl.below r blank lt ∙ ext.stay r lt

    zero'' : (r : ℕ) → count ≤ r → r < capacity rows → row_at rows'' r ≡ blank
    zero'' r lo hi = ⊎_elim (λ lt. cl.zeroed r blank lo lt (omega (arith, hi, ext.long))) (λ le. cl.behind r blank le ∙ ext.kept.zero_behind r le (omega (arith, hi, ext.long))) (cases_lt r count')

    -- the rows made are given back, and the book is as before
    pub kept_back : KeptBook rows'' count
    kept_back = record {
      sound = sound_kept rows rows'' count sound stay'' (cl.long ∙ ext.long);
      zero_behind = λ r lo hi. zero'' r lo (omega (arith, hi, cl.long, ext.long));
    }

    pub keeps_back : Keeps (book_of rows count) (book_of rows'' count)
    keeps_back = record {
      long = cl.long ∙ ext.long;
      stay = stay'';
      zero_behind = zero'';
      untouched = λ r le. cl.behind r blank (omega (arith, le, ext.kept.sound.within, ext.long)) ∙ ext.untouched r le;
    }
