-- The numbers by which theories and facts are refused.
--
--   theory_fault_number  why a theory was not made
--   fact_fault_number    why a fact was not made
use Rattle.std.specs.Prelude.{ℕ}
use Rattle.theory.specs.declared.faults.TheoryFault.{TheoryFault}
use Rattle.theory.specs.declared.faults.TheoryFault.TheVariants.{TooManyVariables}
use Rattle.theory.specs.declared.faults.FactFault.{FactFault}
use Rattle.theory.specs.declared.faults.FactFault.TheVariants.{NoTerm, NoVariable, ConstantOutOfRange}

abbrev pub theory_fault_number : TheoryFault → ℕ
theory_fault_number TooManyVariables = 5

abbrev pub fact_fault_number : FactFault → ℕ
fact_fault_number NoTerm = 6
fact_fault_number NoVariable = 7
fact_fault_number ConstantOutOfRange = 8
