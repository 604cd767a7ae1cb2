-- Facts as records state them: by a relation, two sides and a constant, in the theory that the question names.
--
--   from_fact           a fact's number, or why the theory refused it, as the fault of a record
--   is_zero             a constant is zero
--   terms_stated        over so many terms: = and ≠ only, no constant, then what the theory says
--   differences_stated  over so many variables: ≤ and < only, then what the theory says
--   in_front            a fact in front of others, or the refusal of the first that is refused
--   all_stated          the facts of statements, in their order, or why the first that is refused is
use Rattle.std.specs.Prelude.{ℕ, Bool, false, cond, ℤ, pos, negsuc, List, [], ◌∷◌, Ok, Err, Result, ◌==◌}
use Rattle.theory.specs.declared.faults.FactFault.{FactFault}
use Rattle.terms.specs.declared.equal.Relation.TheVariants.{Equal as same, Different as other}
use Rattle.terms.specs.Facts.{made_fact}
use Rattle.differences.specs.declared.Bound.TheVariants.{AtMost as at_most, Below as below}
use Rattle.differences.specs.Facts.{fact_made}
use Rattle.records.specs.declared.faults.RecordFault.TheVariants.{WrongRelation, NotZero}
use Rattle.records.specs.declared.record.Relation.{Relation}
use Rattle.records.specs.declared.record.Relation.TheVariants.{Equal, Different, AtMost, Below}
use Rattle.records.specs.declared.record.Statement.{Statement}
use Rattle.session.specs.declared.faults.Fault.{Fault}
use Rattle.session.specs.declared.faults.Fault.TheVariants.{Record, Fact}

abbrev pub from_fact : Result ℕ FactFault → Result ℕ Fault
from_fact (Ok n) = Ok n
from_fact (Err fault) = Err (Fact fault)

abbrev pub is_zero : ℤ → Bool
is_zero (pos n) = n == 0
is_zero (negsuc n) = false

abbrev terms_by : Relation → ℕ → Statement → Result ℕ Fault
terms_by Equal count s = cond (is_zero s.constant) (from_fact (made_fact count same s.left s.right)) (Err (Record NotZero))
terms_by Different count s = cond (is_zero s.constant) (from_fact (made_fact count other s.left s.right)) (Err (Record NotZero))
terms_by AtMost count s = Err (Record WrongRelation)
terms_by Below count s = Err (Record WrongRelation)

abbrev pub terms_stated : ℕ → Statement → Result ℕ Fault
terms_stated count s = terms_by s.relation count s

abbrev differences_by : Relation → ℕ → Statement → Result ℕ Fault
differences_by Equal v s = Err (Record WrongRelation)
differences_by Different v s = Err (Record WrongRelation)
differences_by AtMost v s = from_fact (fact_made v at_most s.left s.right s.constant)
differences_by Below v s = from_fact (fact_made v below s.left s.right s.constant)

abbrev pub differences_stated : ℕ → Statement → Result ℕ Fault
differences_stated v s = differences_by s.relation v s

abbrev pub in_front : Result ℕ Fault → Result (List ℕ) Fault → Result (List ℕ) Fault
in_front (Ok n) (Ok ns) = Ok (n ∷ ns)
in_front (Ok n) (Err fault) = Err fault
in_front (Err fault) rest = Err fault

abbrev pub all_stated : (Statement → Result ℕ Fault) → List Statement → Result (List ℕ) Fault
all_stated stated [] = Ok []
all_stated stated (s ∷ ss) = in_front (stated s) (all_stated stated ss)
