-- Rows in a list, the first of them in use: which are there, and what finding, putting and clearing do.
--
--   NoTwins   no two rows in use are the same
--   Absent    a row is none of those in use
--   Finds     a search gives the place of the row in use that is the one looked for, or tells that there is none
--   Puts      a row is given the place where it stands already, or the one behind those in use, or finds no place and
--             changes nothing
--   Cleared   the rows between two places are blank, all others as they were
use Rattle.std.specs.Prelude.{◌≡◌, ℕ, ◌+◌, ◌<◌, ◌≤◌, ◌⊎◌, List, length, Some, None, Option, ◌≢◌, slice_index_or, slice_set}

abbrev pub NoTwins : {R : Type 0} → List R → ℕ → Type 0
NoTwins {R} rows count = (i j : ℕ) (d : R) → (i < j) × (j < count) → slice_index_or rows i d ≢ slice_index_or rows j d

abbrev pub Absent : {R : Type 0} → List R → ℕ → R → Type 0
Absent rows count row = (i : ℕ) → i < count → slice_index_or rows i row ≢ row

abbrev pub Finds : {R : Type 0} → List R → ℕ → R → Option ℕ → Type 0
Finds rows count row (Some i) = (i < count) × (slice_index_or rows i row ≡ row)
Finds rows count row None = Absent rows count row

-- `room` rows may be in use; before the call `count` of `rows` were, after it `count'` of `rows'`
abbrev pub Puts : {R : Type 0} → ℕ → List R → ℕ → R → List R → ℕ → Option ℕ → Type 0
Puts room rows count row rows' count' (Some i) =
    ((i < count) × (slice_index_or rows i row ≡ row) × (rows' ≡ rows) × (count' ≡ count))
    ⊎ ((i ≡ count) × (count < room) × Absent rows count row × (rows' ≡ slice_set rows count row) × (count' ≡ count + 1))
Puts room rows count row rows' count' None = (room ≤ count) × Absent rows count row × (rows' ≡ rows) × (count' ≡ count)

pub record Cleared {R : Type 0} (rows : List R) (from to : ℕ) (blank : R) (rows' : List R) : Type 0 where
  pub long : length rows' ≡ length rows
  pub below : (r : ℕ) (d : R) → r < from → slice_index_or rows' r d ≡ slice_index_or rows r d
  pub zeroed : (r : ℕ) (d : R) → from ≤ r → r < to → r < length rows → slice_index_or rows' r d ≡ blank
  pub behind : (r : ℕ) (d : R) → to ≤ r → slice_index_or rows' r d ≡ slice_index_or rows r d
