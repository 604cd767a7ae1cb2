-- What an answer says of its choices.
--
--   belongs  whether a choice belongs to a number, which the book has to hold
--   choices  how many choices over so many positions belong to a number
use Rattle.std.specs.Prelude.{ℕ, ◌+◌, ◌^◌, Bool, ◌&&◌, List, nat_lt, count_by}
use Rattle.std.specs.List.{range_with_len}
use Rattle.diagrams.specs.declared.Row.{Row}
use Rattle.diagrams.specs.Diagram.{member}

abbrev pub belongs : List Row → ℕ → ℕ → ℕ → Bool
belongs rows count number choice = nat_lt number (count + 2) && member rows number choice

abbrev pub choices : List Row → ℕ → ℕ → ℕ → ℕ
choices rows count number positions = count_by (belongs rows count number) (range_with_len 0 (2 ^ positions))
