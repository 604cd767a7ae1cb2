-- The numbers by which records are refused.
--
--   record_fault_number  why a record was refused
use Rattle.std.specs.Prelude.{ℕ}
use Rattle.records.specs.declared.faults.RecordFault.{RecordFault}
use Rattle.records.specs.declared.faults.RecordFault.TheVariants.{Cut, UnknownLetter, NotZero, TooManyPredicates, TooManyGoals, WrongRelation, TooManyAnswers}

abbrev pub record_fault_number : RecordFault → ℕ
record_fault_number Cut = 16
record_fault_number UnknownLetter = 17
record_fault_number NotZero = 18
record_fault_number TooManyPredicates = 9
record_fault_number TooManyGoals = 10
record_fault_number WrongRelation = 19
record_fault_number TooManyAnswers = 20
