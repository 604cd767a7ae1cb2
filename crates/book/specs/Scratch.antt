-- The memory that a call lends to its unions and intersections: an index of the rows in use, and results computed before.
--
--   entry_at   an entry of a table of computed results; an empty one has zeros
--   AllEmpty   a table without entries
--   Recalls    a table has an entry with two numbers and a result
--   Writes     such an entry takes the place of another, or the table has no place
--   Notes      an entry is written into the table of its operation
--   Remembers  each entry's numbers are held, and its result reads as the operation of the two
--   Ready      a book is kept, and the index and both tables are right for its rows
use Rattle.std.specs.Prelude.{◌≡◌, ℕ, ◌+◌, ◌<◌, ◌≤◌, ◌⊎◌, List, length, slice_index_or, slice_set}
use Rattle.register.specs.Chains.{Indexed}
use Rattle.diagrams.specs.declared.Row.{Row}
use Rattle.diagrams.specs.declared.Operation.{Operation}
use Rattle.diagrams.specs.declared.Operation.TheVariants.{Union, Intersection}
use Rattle.diagrams.specs.Diagram.{member, row_hash}
use Rattle.diagrams.specs.Books.{KeptBook, capacity, union_or_intersection}
use Rattle.book.specs.declared.scratch.Entry.{Entry}

abbrev pub entry : ℕ → ℕ → ℕ → Entry
entry a b n = record { left = a; right = b; result = n }

abbrev pub entry_at : List Entry → ℕ → Entry
entry_at table k = slice_index_or table k (entry 0 0 0)

abbrev pub AllEmpty : List Entry → Type 0
AllEmpty table = (k : ℕ) → entry_at table k ≡ entry 0 0 0

abbrev pub Recalls : List Entry → ℕ → ℕ → ℕ → Type 0
Recalls table a b n = (k : ℕ) × (entry_at table k ≡ entry a b n)

abbrev pub Writes : List Entry → ℕ → ℕ → ℕ → List Entry → Type 0
Writes table a b n table' = (table' ≡ table) ⊎ ((k : ℕ) × (k < length table) × (table' ≡ slice_set table k (entry a b n)))

-- an entry is written for one operation; the other's table is as before
abbrev pub Notes : Operation → ℕ → ℕ → ℕ → List Entry → List Entry → List Entry → List Entry → Type 0
Notes Union a b n unions intersections unions' intersections' = Writes unions a b n unions' × (intersections' ≡ intersections)
Notes Intersection a b n unions intersections unions' intersections' = Writes intersections a b n intersections' × (unions' ≡ unions)

-- the table of an operation
abbrev pub table_of : Operation → List Entry → List Entry → List Entry
table_of Union unions intersections = unions
table_of Intersection unions intersections = intersections

pub record Right (op : Operation) (rows : List Row) (count : ℕ) (e : Entry) : Type 0 where
  pub left : e.left < count + 2
  pub right : e.right < count + 2
  pub result : e.result < count + 2
  pub reads : (c : ℕ) → member rows e.result c ≡ union_or_intersection op rows e.left e.right c

-- the numbers of rows start at 2
abbrev pub Remembers : Operation → List Row → ℕ → List Entry → Type 0
Remembers op rows count table = (k : ℕ) → 2 ≤ (entry_at table k).left → Right op rows count (entry_at table k)

pub record Ready (rows : List Row) (count : ℕ) (heads next : List ℕ) (unions intersections : List Entry) : Type 0 where
  pub kept : KeptBook rows count
  pub indexed : Indexed row_hash rows count heads next
  pub room : capacity rows ≤ length next
  pub unions_right : Remembers Union rows count unions
  pub intersections_right : Remembers Intersection rows count intersections
