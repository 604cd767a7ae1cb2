use Rattle.std.proofs.lemmas.Result.{err_from_is_err_and}
use Rattle.session.proofs.Gathering.{refused_at}
use Rattle.session.proofs.stated.facts_of.Goals as goal

pub returns-in_err-state : goal.returns-in_err-state
returns-in_err-state g c = let p = err_from_is_err_and c.from_residual.result c.from_residual.ensures.1 in rw (p.1, p.2) (refused_at _ _ _ _ _ _ c.loop-statement-test.true c.loop-statement.invariant.these c.in_err-state.ensures)
