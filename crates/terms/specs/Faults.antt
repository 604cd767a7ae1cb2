-- The numbers by which terms are refused.
--
--   term_fault_number  why a term was not added
use Rattle.std.specs.Prelude.{ℕ}
use Rattle.terms.specs.declared.faults.TermFault.{TermFault}
use Rattle.terms.specs.declared.faults.TermFault.TheVariants.{TooManyArguments, NoEarlierTerm, UnusedNotZero, TableFull}

abbrev pub term_fault_number : TermFault → ℕ
term_fault_number TooManyArguments = 1
term_fault_number NoEarlierTerm = 2
term_fault_number UnusedNotZero = 3
term_fault_number TableFull = 4
