-- The terms of a table, and the facts over them as they are made.
--
--   terms_of    the terms of a table, first to last
--   number_of   the number of the fact that relates terms i and j, with m terms
--   made_fact   the same, or the refusal where i or j is no term
use Rattle.std.specs.Prelude.{ℕ, cond, ◌&&◌, List, take, Ok, Err, Result, nat_lt}
use Rattle.theory.specs.declared.faults.FactFault.{FactFault}
use Rattle.theory.specs.declared.faults.FactFault.TheVariants.{NoTerm}
use Rattle.equality.specs.declared.Term.{Term}
use Rattle.equality.specs.Equality.{equal, differ}
use Rattle.terms.specs.declared.table.TermTable.{TermTable}
use Rattle.terms.specs.declared.equal.Relation.{Relation}
use Rattle.terms.specs.declared.equal.Relation.TheVariants.{Equal, Different}

abbrev pub terms_of : TermTable → List Term
terms_of t = take t.lent.count t.lent.rows.now

abbrev pub number_of : ℕ → Relation → ℕ → ℕ → ℕ
number_of m Equal i j = equal m i j
number_of m Different i j = differ m i j

abbrev pub made_fact : ℕ → Relation → ℕ → ℕ → Result ℕ FactFault
made_fact m relation i j = cond (nat_lt i m && nat_lt j m) (Ok (number_of m relation i j)) (Err NoTerm)
