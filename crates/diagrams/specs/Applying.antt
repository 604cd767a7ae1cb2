-- What the steps of a union or an intersection do to a book's rows.
--
--   row_with  the row with a position and two numbers
--   Absent    no row in use is the row
--   Extends   rows are only put behind those in use, and what always holds of a book holds
--   Fit       two numbers may stand in a row at a position
--   Makes     from the numbers of a set's halves, the set's number, or too many rows
--   Applies   the number of a set, or too many rows
--   Shortens  the number of a union or an intersection that asks for no row
--   Step      two numbers of rows, the first position that they ask for, and the numbers of their halves there
use Rattle.std.specs.Prelude.{◌≡◌, ℕ, ◌+◌, ◌<◌, ◌≤◌, min, true, false, ◌≢◌, ◌⊎◌, List, length, Some, None, Ok, Err, Option, Result}
use Rattle.diagrams.specs.declared.Row.{Row}
use Rattle.diagrams.specs.declared.NoRoom.{NoRoom}
use Rattle.theory.specs.Counting.{MoreThan}
use Rattle.diagrams.specs.Diagram.{Choices, RowOf, InUse, Sound, row_at, member, position_of}
use Rattle.diagrams.specs.Making.{Adds, Halves, child}
use Rattle.diagrams.specs.Books.{capacity, union_or_intersection, KeptBook}
use Rattle.diagrams.specs.declared.Operation.{Operation}

abbrev pub row_with : ℕ → ℕ → ℕ → Row
row_with p a b = record { position = p; without = a; with = b }

-- no row in use is the row
abbrev pub Absent : List Row → ℕ → Row → Type 0
Absent rows count w = (r : ℕ) → r < count → row_at rows r ≢ w

-- rows are only put behind those in use, and what always holds of a book holds
pub record Extends (rows : List Row) (count : ℕ) (rows' : List Row) (count' : ℕ) : Type 0 where
  pub long : length rows' ≡ length rows
  pub stay : (r : ℕ) → r < count → row_at rows' r ≡ row_at rows r
  pub more : count ≤ count'
  pub untouched : (r : ℕ) → capacity rows ≤ r → row_at rows' r ≡ row_at rows r
  pub kept : KeptBook rows' count'

-- two numbers that may stand in a row at a position
pub record Fit (rows : List Row) (count p a b : ℕ) : Type 0 where
  pub in_range : p < 16
  pub held_without : a < count + 2
  pub held_with : b < count + 2
  pub higher_without : p < position_of rows a
  pub higher_with : p < position_of rows b
  pub within : (c : ℕ) → member rows a c ≡ true → member rows b c ≡ true

-- from the numbers of a set's two halves, the set's: or the rows wanted outnumber those there are
abbrev pub Makes : List Row → ℕ → List Row → ℕ → ℕ → ℕ → ℕ → Result ℕ NoRoom → Type 0
Makes rows count rows' count' p a b (Ok n) =
    (rows₀ : List Row) (count₀ : ℕ) (s : Choices) → Halves rows₀ count₀ rows count s p a b → Adds rows₀ count₀ rows' count' s n
Makes rows count rows' count' p a b (Err e) =
    (rows₀ : List Row) (count₀ : ℕ) (s : Choices) → Halves rows₀ count₀ rows count s p a b → MoreThan (capacity rows) (λ x. InUse rows₀ count₀ x ⊎ RowOf s x)

-- the number of a set: or the rows wanted outnumber those there are
abbrev pub Applies : List Row → ℕ → List Row → ℕ → Choices → Result ℕ NoRoom → Type 0
Applies rows count rows' count' s (Ok n) = Adds rows count rows' count' s n
Applies rows count rows' count' s (Err e) = MoreThan (capacity rows) (λ x. InUse rows count x ⊎ RowOf s x)

-- the number of a join that asks for no row
abbrev pub Shortens : Operation → ℕ → ℕ → Option ℕ → Type 0
Shortens op a b (Some n) = ((n ≡ a) ⊎ (n ≡ b)) × ((rows : List Row) (c : ℕ) → member rows n c ≡ union_or_intersection op rows a b c)
Shortens op a b None = (2 ≤ a) × (2 ≤ b)

-- two numbers of rows, the first position that they ask for, and the numbers of their halves there
pub record Step (rows : List Row) (count a b p a₀ b₀ a₁ b₁ : ℕ) : Type 0 where
  pub sound : Sound rows count
  pub in_range : p < 16
  pub held_left : a < count + 2
  pub held_right : b < count + 2
  pub first : p ≡ min (position_of rows a) (position_of rows b)
  pub left_without : a₀ ≡ child rows p a false
  pub right_without : b₀ ≡ child rows p b false
  pub left_with : a₁ ≡ child rows p a true
  pub right_with : b₁ ≡ child rows p b true
