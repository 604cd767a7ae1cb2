-- What adding a term to a table does.
--
--   refusal   why a term cannot stand in a table of so many terms, if it cannot
--   room      how many terms a table over these rows has place for
--   Added     what was answered and left behind, by the refusal: refused, found, appended, or no place left
--   Adds      the same, by the term
use Rattle.std.specs.Prelude.{◌≡◌, ℕ, ◌+◌, ◌<◌, ◌≤◌, min, cond, not, ◌&&◌, ◌||◌, ◌⊎◌, List, length, Some, None, Ok, Err, Option, Result, ◌==◌, nat_le, nat_lt, slice_index_or, slice_set}
use Rattle.equality.specs.declared.Term.{Term}
use Rattle.register.specs.Rows.{Absent}
use Rattle.terms.specs.declared.faults.TermFault.{TermFault}
use Rattle.terms.specs.declared.faults.TermFault.TheVariants.{TooManyArguments, NoEarlierTerm, UnusedNotZero, TableFull}

-- with `count` terms in the table: the first reason that applies
abbrev pub refusal : ℕ → Term → Option TermFault
refusal count t =
    cond (nat_lt 2 t.arity) (Some TooManyArguments)
    (cond ((nat_le 1 t.arity && nat_le count t.left) || (nat_le 2 t.arity && nat_le count t.right)) (Some NoEarlierTerm)
    (cond ((nat_lt t.arity 1 && not (t.left == 0)) || (nat_lt t.arity 2 && not (t.right == 0))) (Some UnusedNotZero) None))

abbrev pub room : List Term → ℕ
room rows = min 24 (length rows)

-- before the call `count` of `rows` are terms, after it `count'` of `rows'`; the answer is the term's number or why it was refused
abbrev pub Added : Option TermFault → List Term → ℕ → Term → List Term → ℕ → Result ℕ TermFault → Type 0
Added (Some fault) rows count t rows' count' r = (r ≡ Err fault) × (rows' ≡ rows) × (count' ≡ count)
Added None rows count t rows' count' (Ok i) =
    ((i < count) × (slice_index_or rows i t ≡ t) × (rows' ≡ rows) × (count' ≡ count))
    ⊎ ((i ≡ count) × (count < room rows) × Absent rows count t × (rows' ≡ slice_set rows count t) × (count' ≡ count + 1))
Added None rows count t rows' count' (Err fault) =
    (fault ≡ TableFull) × (room rows ≤ count) × Absent rows count t × (rows' ≡ rows) × (count' ≡ count)

abbrev pub Adds : List Term → ℕ → Term → List Term → ℕ → Result ℕ TermFault → Type 0
Adds rows count t rows' count' r = Added (refusal count t) rows count t rows' count' r
