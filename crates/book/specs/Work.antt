-- The work slice of a question: a front part that is used and zeroed, and a rest that is left alone.
--
--   ZeroBelow  the numbers in front of a place are zero
--   SameFrom   from a place on, two slices hold the same
use Rattle.std.specs.Prelude.{◌≡◌, ℕ, ◌<◌, ◌≤◌, List, slice_index}

abbrev pub ZeroBelow : List ℕ → ℕ → Type 0
ZeroBelow numbers place = (k : ℕ) → k < place → slice_index numbers k ≡ 0

abbrev pub SameFrom : ℕ → List ℕ → List ℕ → Type 0
SameFrom place before after = (k : ℕ) → place ≤ k → slice_index after k ≡ slice_index before k
