-- Answers of one book to questions over several theories, and what equal numbers say of them.
--
--   Later       a book after a run that goes on from where numbers had been given before
--   Leads       every run of a book goes on to the book afterwards
--   Tells       whether two numbers are equal tells whether two sets of choices are the same
--   Compared    the run goes on, and each comparison with the first answer tells
use Rattle.std.specs.Prelude.{◌≡◌, Bool, true, ◌↔◌, List}
use mathlib.Core.List.{Memᴰ}
use Rattle.diagrams.specs.declared.Operation.TheVariants.{Union, Intersection}
use Rattle.diagrams.specs.Books.{Book}
use Rattle.book.specs.Runs.{GivenFor, together_of, Given, Same, Run}
use Rattle.comparison.specs.declared.Comparison.{Comparison}

pub record Later (b' : Book) (before : List Given) : Type 0 where
  pub so_far : List Given
  pub run : Run b' so_far
  pub earlier : (x : Given) → Memᴰ x before → Memᴰ x so_far

abbrev pub Leads : Book → Book → Type 0
Leads b b' = (before : List Given) → Run b before → Later b' before

abbrev pub Tells : Bool → GivenFor → GivenFor → Type 0
Tells equal s t = (equal ≡ true) ↔ Same s t

-- the first, second and third question were asked for the choices of s, t and u, the abstraction for those of v; the union is
-- of the first two, the intersection is of that and the abstraction
pub record Compared (b' : Book) (before : List Given) (s t u v : GivenFor) (equal : Comparison) : Type 0 where
  pub later : Later b' before
  pub second : Tells equal.second s t
  pub third : Tells equal.third s u
  pub cases : Tells equal.cases s v
  pub union : Tells equal.union s (together_of Union s t)
  pub intersection : Tells equal.intersection s (together_of Intersection (together_of Union s t) v)
