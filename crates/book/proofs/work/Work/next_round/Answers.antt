use Rattle.std.proofs.Common.{arith}
use Rattle.theory.specs.Means.{meaning}
use Rattle.saturation.proofs.Turning.{round_settled}
use Rattle.book.proofs.Failing.{failed}
use Rattle.book.proofs.Settling.{settled}
use Rattle.book.proofs.work.Work.next_round.Goals as goal

pub returns-in_err-round-clause-turns : goal.returns-in_err-round-clause-turns
returns-in_err-round-clause-turns g c S h = failed c.from_residual.result c.from_residual.ensures.0 _ _ (c.in_err-round.ensures.rounded S h)

pub returns-clause-turns : goal.returns-clause-turns
returns-clause-turns g c S h =
    let m = meaning g.T.Theory c.args.theory.now in
    let w = c.round.new.self in
    let t = c.settle.ensures in
    round_settled m (g.T.Theory.lawful c.args.theory.now) S (c.in_ok-round.ensures.rounded S h) (settled c.settle.result w.halves t.taken t.kept t.changed t.same) (omega (arith, c.round.ensures.stepped.long, c.requires.long, w.halves))
