-- The number by which a record is refused: its own check's, or that of the call below that refused.
--
--   fault_number  the number that the line of a refused record shows
use Rattle.std.specs.Prelude.{ℕ}
use Rattle.theory.specs.Faults.{theory_fault_number, fact_fault_number}
use Rattle.terms.specs.Faults.{term_fault_number}
use Rattle.book.specs.Questions.{question_fault_number}
use Rattle.records.specs.Faults.{record_fault_number}
use Rattle.session.specs.declared.faults.Fault.{Fault}
use Rattle.session.specs.declared.faults.Fault.TheVariants.{Record, Term, Theory, Fact, Question}

abbrev pub fault_number : Fault → ℕ
fault_number (Record f) = record_fault_number f
fault_number (Term f) = term_fault_number f
fault_number (Theory f) = theory_fault_number f
fault_number (Fact f) = fact_fault_number f
fault_number (Question f) = question_fault_number f
