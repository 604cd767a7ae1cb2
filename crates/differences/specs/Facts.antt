-- How a fact of the theory of differences is made.
--
--   strictness  1 for <, 0 for ≤
--   fact_of     the fact that has the parts that the code holds
--   in_range    a constant from −15 to 15
--   fact_made   the number of a fact, or why it was not made: first a variable that is not there, then a constant out of range
use Rattle.std.specs.Prelude.{ℕ, Bool, cond, ◌&&◌, ℤ, pos, negsuc, Ok, Err, Result, int_le, nat_lt}
use Rattle.theory.specs.declared.faults.FactFault.{FactFault}
use Rattle.theory.specs.declared.faults.FactFault.TheVariants.{NoVariable, ConstantOutOfRange}
use Rattle.potentials.specs.Differences.{Difference, held, number}
use Rattle.differences.specs.declared.parts.Parts.{Parts}
use Rattle.differences.specs.declared.Bound.{Bound}
use Rattle.differences.specs.declared.Bound.TheVariants.{AtMost, Below}

abbrev pub strictness : Bound → ℕ
strictness AtMost = 0
strictness Below = 1

abbrev pub fact_of : Parts → Difference
fact_of p = record { strict = strictness p.bound; left = p.left; right = p.right; constant = p.constant }

abbrev pub in_range : ℤ → Bool
in_range c = int_le (negsuc 14) c && int_le c (pos 15)

abbrev pub fact_made : ℕ → Bound → ℕ → ℕ → ℤ → Result ℕ FactFault
fact_made v b x y c =
    cond (nat_lt x v && nat_lt y v)
    (cond (in_range c) (Ok (number v (record { strict = strictness b; left = x; right = y; constant = held c }))) (Err ConstantOutOfRange)) (Err NoVariable)
