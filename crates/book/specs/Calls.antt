-- What the public calls on a book do.
--
--   Joins     two numbers are put together: the number of their union or intersection, with exactly its rows; or they do
--             not fit; or one of the numbers is not held
--   Reads     a number is read at a choice: whether the choice belongs, or the book does not hold the number
use Rattle.std.specs.Prelude.{◌≡◌, ℕ, ◌+◌, ◌<◌, ◌≤◌, Bool, ◌⊎◌, List, Ok, Err, Result}
use Rattle.diagrams.specs.declared.Row.{Row}
use Rattle.diagrams.specs.declared.Operation.{Operation}
use Rattle.diagrams.specs.Diagram.{member, RowOf}
use Rattle.diagrams.specs.Books.{Book, Held, Grows, RefusedFull, union_or_intersection}
use Rattle.book.specs.declared.faults.BookFault.{BookFault}
use Rattle.book.specs.declared.faults.BookFault.TheVariants.{Full, NotHeld}

-- yes or no exactly where the number is held, by the rows; refused exactly where it is not
abbrev pub Reads : List Row → ℕ → ℕ → ℕ → Result Bool BookFault → Type 0
Reads rows count number choice (Ok belongs) = (number < count + 2) × (belongs ≡ member rows number choice)
Reads rows count number choice (Err fault) = (count + 2 ≤ number) × (fault ≡ NotHeld)

pub record Joined (op : Operation) (x y : ℕ) (b : Book) (n : ℕ) (b' : Book) : Type 0 where
  pub holds_left : Held b x
  pub holds_right : Held b y
  pub grows : Grows b b' (RowOf (union_or_intersection op b.rows x y))
  pub held : Held b' n
  pub belong : (c : ℕ) → member b'.rows n c ≡ union_or_intersection op b.rows x y c

abbrev pub Joins : Operation → ℕ → ℕ → Book → Result ℕ BookFault → Book → Type 0
Joins op x y b (Ok n) b' = Joined op x y b n b'
Joins op x y b (Err Full) b' = Held b x × Held b y × RefusedFull b b' (RowOf (union_or_intersection op b.rows x y))
Joins op x y b (Err NotHeld) b' = ((b.count + 2 ≤ x) ⊎ (b.count + 2 ≤ y)) × (b' ≡ b)
