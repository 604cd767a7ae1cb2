-- The rows of a book, what reading them says, the properties that always hold of them, and the rows of a set of choices.
-- The numbers 0 and 1 stand for no choice and all choices; row r has the number r + 2.
--
--   blank         the row of zeros
--   row_at        the row of number r + 2
--   position_of   the position that a number asks for first; 16 for 0 and 1
--   walk          what a walk from a number says, over the positions that pass a test
--   member        whether a choice belongs to a number
--   Ordered       a row whose children differ and are held numbers with a higher position
--   put_position  a choice with one position chosen or not
--   mixed         a choice with the positions below p of one choice and the others of another
--   Sound         what always holds of the rows in use
--   CanonicalRows   held numbers that read alike are equal
--   Choices       a set of choices, as a test
--   remainder     what a set leaves over the positions from p on, where those below p are fixed (a word of our own)
--   Depends       a position makes a difference to a set
--   Part          a row of sets: a position and a remainder over it
--   RowOf         a row of a set: a remainder of it that depends on its position
--   part_at       the row of number r + 2 as a row of sets
--   InUse         it is one of the rows in use
use Rattle.std.specs.Prelude.{◌≡◌, ℕ, zero, suc, ◌+◌, ◌*◌, ◌^◌, ◌<◌, ◌≤◌, min, Bool, true, false, cond, ◌≢◌, List, length, ◌==◌, nat_lt, slice_index_or}
use Rattle.diagrams.specs.declared.Row.{Row}
use Rattle.theory.specs.Rounds.{bit, choice_of}

abbrev pub blank : Row
blank = record { position = 0; without = 0; with = 0 }

-- the hash of a row, by which an index finds it
abbrev pub row_hash : Row → ℕ
row_hash r = r.without * 3 + r.with * 613 + r.position * 1021

-- the row of number r + 2
abbrev pub row_at : List Row → ℕ → Row
row_at rows r = slice_index_or rows r blank

-- the position of a number: of 0 and 1, which ask for no position, the one behind the last
abbrev pub position_of : List Row → ℕ → ℕ
position_of rows zero = 16
position_of rows (suc zero) = 16
position_of rows (suc (suc r)) = (row_at rows r).position

-- what a walk of at most k rows from a number says of the positions that pass a test
abbrev pub walk : ℕ → List Row → ℕ → (ℕ → Bool) → Bool
walk k rows zero has = false
walk k rows (suc zero) has = true
walk zero rows (suc (suc r)) has = false
walk (suc k) rows (suc (suc r)) has =
    cond (has (row_at rows r).position) (walk k rows (row_at rows r).with has) (walk k rows (row_at rows r).without has)

-- whether a choice belongs to a number
unfoldable pub member : List Row → ℕ → ℕ → Bool
member rows n c = walk 16 rows n (bit c)

-- without and with differ, and are 0, 1 or rows in use with a higher position
pub record Ordered (rows : List Row) (count : ℕ) (row : Row) : Type 0 where
  pub in_range : row.position < 16
  pub differ : row.without ≢ row.with
  pub held_without : row.without < count + 2
  pub held_with : row.with < count + 2
  pub higher_without : row.position < position_of rows row.without
  pub higher_with : row.position < position_of rows row.with

-- the choice c with position p chosen or not, as v says
unfoldable pub put_position : ℕ → Bool → ℕ → ℕ
put_position p v c = choice_of 16 (λ k. cond (k == p) v (bit c k))

-- the choice with the positions below p as in a, and the others as in c
unfoldable pub mixed : ℕ → ℕ → ℕ → ℕ
mixed p a c = choice_of 16 (λ k. cond (nat_lt k p) (bit a k) (bit c k))

-- what always holds of a book's rows, the first `count` of them in use
pub record Sound (rows : List Row) (count : ℕ) : Type 0 where
  pub within : count ≤ min 65534 (length rows)
  pub ordered : (r : ℕ) → r < count → Ordered rows count (row_at rows r)
  pub apart : (r s : ℕ) → r < count → s < count → row_at rows r ≡ row_at rows s → r ≡ s
  -- adding a position to a choice never takes it out of a set of the book
  pub growing : (n c k : ℕ) → n < count + 2 → k < 16 → member rows n c ≡ true → member rows n (put_position k true c) ≡ true

-- two held numbers to which the same choices belong are one
abbrev pub CanonicalRows : List Row → ℕ → Type 0
CanonicalRows rows count = (a b : ℕ) → a < count + 2 → b < count + 2 → ((c : ℕ) → c < 2 ^ 16 → member rows a c ≡ member rows b c) → a ≡ b

-- a set of choices, by a test
abbrev pub Choices : Type 0
Choices = ℕ → Bool

-- what a set leaves over the positions p to 15, where those below p are fixed as in the choice a
abbrev pub remainder : Choices → ℕ → ℕ → Choices
remainder s p a c = s (mixed p a c)

-- whether position p is chosen makes a difference to some choice
abbrev pub Depends : Choices → ℕ → Type 0
Depends s p = (c : ℕ) × (s (put_position p false c) ≢ s (put_position p true c))

-- a row of sets: a position and a remainder over it
pub record Part : Type 0 where
  pub from : ℕ
  pub rest : Choices

-- a row of the set: a remainder that depends on its position. Equal remainders at one position are one row
pub record RowOf (s : Choices) (x : Part) : Type 0 where
  pub in_range : x.from < 16
  pub fixed : ℕ
  pub left : x.rest ≡ remainder s x.from fixed
  pub depends : Depends x.rest x.from

-- the row of number r + 2 as a row of sets
abbrev pub part_at : List Row → ℕ → Part
part_at rows r = record { from = (row_at rows r).position; rest = remainder (member rows (suc (suc r))) (row_at rows r).position 0 }

-- a row in use
abbrev pub InUse : List Row → ℕ → Part → Type 0
InUse rows count x = (r : ℕ) × (r < count) × (x ≡ part_at rows r)
