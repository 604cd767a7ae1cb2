-- A book: rows of which the first are in use, how a call may change them, and union and intersection of sets.
--
--   Book                   all rows of the slice, and how many of them are in use
--   capacity               how many rows of its slice a book uses
--   opening                the book that opening makes of a slice
--   Held                   0, 1 or the number of a row in use
--   Wanted                 the rows in use and some others, each counted once
--   Outnumber              they are more than the book has place for
--   Keeps                  rows in use stay, those behind are blank, those that the book does not use are untouched
--   Grows                  the rows in use are afterwards exactly those wanted
--   RefusedFull            they outnumber the book's rows, and the count is as before
--   together               both, or at least one of two
--   neutral                the number of the set with which an operation changes no set
--   absorbing              the number of the set that an operation makes of itself and any set
--   union_or_intersection  the set of choices that two numbers have together
--   KeptBook               what always holds of a book
use Rattle.std.specs.Prelude.{◌≡◌, ℕ, ◌+◌, ◌<◌, ◌≤◌, min, Bool, ◌&&◌, ◌||◌, ◌⊎◌, ◌↔◌, List, ◌++◌, length, drop, replicate}
use Rattle.theory.specs.Counting.{Counts, MoreThan}
use Rattle.diagrams.specs.declared.Row.{Row}
use Rattle.diagrams.specs.declared.Operation.{Operation}
use Rattle.diagrams.specs.declared.Operation.TheVariants.{Union, Intersection}
use Rattle.diagrams.specs.Diagram.{Choices, Part, InUse, Sound, blank, row_at, member}

pub record Book : Type 0 where
  pub rows : List Row
  pub count : ℕ

abbrev pub book_of : List Row → ℕ → Book
book_of rows count = record { rows = rows; count = count }

abbrev pub capacity : List Row → ℕ
capacity rows = min 65534 (length rows)

-- the rows that the book uses are blank, the others as they were
abbrev pub opening : List Row → Book
opening slice = record { rows = replicate (capacity slice) blank ++ drop (capacity slice) slice; count = 0 }

abbrev pub Held : Book → ℕ → Type 0
Held b n = n < b.count + 2

abbrev pub Wanted : Book → (Part → Type 0) → Part → Type 0
Wanted b W x = InUse b.rows b.count x ⊎ W x

abbrev pub Outnumber : Book → (Part → Type 0) → Type 0
Outnumber b W = MoreThan (capacity b.rows) (Wanted b W)

pub record Keeps (b b' : Book) : Type 0 where
  pub long : length b'.rows ≡ length b.rows
  pub stay : (r : ℕ) → r < b.count → row_at b'.rows r ≡ row_at b.rows r
  pub zero_behind : (r : ℕ) → b'.count ≤ r → r < capacity b.rows → row_at b'.rows r ≡ blank
  pub untouched : (r : ℕ) → capacity b.rows ≤ r → row_at b'.rows r ≡ row_at b.rows r

pub record Grows (b b' : Book) (W : Part → Type 0) : Type 0 where
  pub keeps : Keeps b b'
  pub fits : b'.count ≤ capacity b.rows
  pub more : b.count ≤ b'.count
  pub counted : Counts (Wanted b W) b'.count
  pub exact : (x : Part) → InUse b'.rows b'.count x ↔ Wanted b W x
  pub sound : Sound b'.rows b'.count

pub record RefusedFull (b b' : Book) (W : Part → Type 0) : Type 0 where
  pub too_many : Outnumber b W
  pub keeps : Keeps b b'
  pub as_before : b'.count ≡ b.count

abbrev pub together : Operation → Bool → Bool → Bool
together Union x y = x || y
together Intersection x y = x && y

abbrev pub neutral : Operation → ℕ
neutral Union = 0
neutral Intersection = 1

abbrev pub absorbing : Operation → ℕ
absorbing Union = 1
absorbing Intersection = 0

abbrev pub union_or_intersection : Operation → List Row → ℕ → ℕ → Choices
union_or_intersection op rows x y c = together op (member rows x c) (member rows y c)

-- its rows are sound, and blank behind those in use
pub record KeptBook (rows : List Row) (count : ℕ) : Type 0 where
  pub sound : Sound rows count
  pub zero_behind : (r : ℕ) → count ≤ r → r < capacity rows → row_at rows r ≡ blank
