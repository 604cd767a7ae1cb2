-- What waits for the next question: lists of predicates and goals, in the order in which they came.
--
--   predicates_of  the pending predicates
--   goals_of       the pending goals
--   with_one       one more behind a list that has room for it; a full list stays as it is
--   if_room        whether one more is taken, or why it is refused
use Rattle.std.specs.Prelude.{ℕ, cond, List, [], ◌∷◌, ◌++◌, length, Ok, Err, Result, nat_lt}
use Rattle.records.specs.declared.faults.RecordFault.{RecordFault}
use Rattle.records.specs.declared.record.Statement.{Statement}
use Rattle.records.specs.declared.pending.Pending.{Pending}

abbrev pub predicates_of : Pending → List Statement
predicates_of p = p.predicates.items

abbrev pub goals_of : Pending → List Statement
goals_of p = p.goals.items

abbrev pub with_one : {X : Type 0} → ℕ → List X → X → List X
with_one most xs x = cond (nat_lt (length xs) most) (xs ++ (x ∷ [])) xs

abbrev pub if_room : {X : Type 0} → ℕ → RecordFault → List X → Result (Unit {0}) RecordFault
if_room most full xs = cond (nat_lt (length xs) most) (Ok tt) (Err full)
