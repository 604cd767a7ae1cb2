use Rattle.std.proofs.Common.{◌≡◌, take, Ok}
use Rattle.arrayvec.specs.ArrayVec.{array_vec_len}
use Rattle.session.specs.Stated.{all_stated}
use Rattle.session.proofs.stated.facts_of.Given as goal

abbrev pub invariant-loop-statement : goal.invariant-loop-statement
invariant-loop-statement g l = record {
  long : array_vec_len l.facts ≡ l.statement-index;
  these : all_stated (g.T.Stated.stated l.theory) (take l.statement-index l.statements) ≡ Ok l.facts.items;
}
