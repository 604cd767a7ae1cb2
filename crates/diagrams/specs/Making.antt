-- What making the number of a set does to a book's rows: the rows in use afterwards are those before and the rows of the set.
--
--   Adds     a number now reads as the set, and exactly the rows of the set were added to those in use
--   FromOn   a set makes no difference between choices that agree from a position on
--   half     a set with a position chosen, or not chosen
--   Halves   the numbers of a set's two halves at a position are there, with exactly the rows of both added
--   child    the number of a number's half at a position: with or without of its row, or the number itself
use Rattle.std.specs.Prelude.{◌≡◌, ℕ, zero, suc, ◌+◌, ◌<◌, ◌≤◌, Bool, true, false, cond, ◌⊎◌, ◌↔◌, List, length, ◌==◌}
use Rattle.diagrams.specs.declared.Row.{Row}
use Rattle.theory.specs.Rounds.{bit}
use Rattle.diagrams.specs.Diagram.{Choices, Part, RowOf, InUse, Sound, row_at, member, position_of, put_position}

pub record Adds (rows : List Row) (count : ℕ) (rows' : List Row) (count' : ℕ) (s : Choices) (n : ℕ) : Type 0 where
  pub long : length rows' ≡ length rows
  pub stay : (r : ℕ) → r < count → row_at rows' r ≡ row_at rows r
  pub more : count ≤ count'
  pub sound : Sound rows' count'
  pub held : n < count' + 2
  pub reads : (c : ℕ) → member rows' n c ≡ s c
  pub exact : (x : Part) → InUse rows' count' x ↔ (InUse rows count x ⊎ RowOf s x)

-- the set makes no difference between choices that agree from position p on
abbrev pub FromOn : Choices → ℕ → Type 0
FromOn s p = (c d : ℕ) → ((k : ℕ) → p ≤ k → k < 16 → bit c k ≡ bit d k) → s c ≡ s d

-- the two halves of a set at a position
abbrev pub half : Choices → ℕ → Bool → Choices
half s p v c = s (put_position p v c)

-- the two halves stand, and their rows are in use
pub record Halves (rows : List Row) (count : ℕ) (rows₂ : List Row) (count₂ : ℕ) (s : Choices) (p a b : ℕ) : Type 0 where
  pub in_range : p < 16
  pub from_on : FromOn s p
  pub long : length rows₂ ≡ length rows
  pub stay : (r : ℕ) → r < count → row_at rows₂ r ≡ row_at rows r
  pub more : count ≤ count₂
  pub sound : Sound rows₂ count₂
  pub held_without : a < count₂ + 2
  pub held_with : b < count₂ + 2
  pub higher_without : p < position_of rows₂ a
  pub higher_with : p < position_of rows₂ b
  pub without : (c : ℕ) → member rows₂ a c ≡ half s p false c
  pub with : (c : ℕ) → member rows₂ b c ≡ half s p true c
  pub exact : (x : Part) → InUse rows₂ count₂ x ↔ (InUse rows count x ⊎ (RowOf (half s p false) x ⊎ RowOf (half s p true) x))

-- the number of a number's half at p: with or without where it is a row at p, else the number itself
abbrev pub child : List Row → ℕ → ℕ → Bool → ℕ
child rows p zero v = zero
child rows p (suc zero) v = suc zero
child rows p (suc (suc r)) v = cond ((row_at rows r).position == p) (cond v (row_at rows r).with (row_at rows r).without) (suc (suc r))
