use Rattle.theory.specs.Means.{meaning}
use Rattle.saturation.specs.Stages.{Family, BothHalves, InRound}
use Rattle.book.specs.Steps.{Stepped}
use Rattle.book.proofs.work.Work.round.Given as goal

abbrev pub invariant-loop-place : goal.invariant-loop-place
invariant-loop-place g l = Stepped l.initial.manager l.manager l.initial.self l.self
    × ((S : Family) → BothHalves (g.T.Theory.facts l.theory) l.initial.manager.register.now.rows.now l.initial.manager.register.now.count l.initial.self.standing.now l.initial.self.gathered.now S
    → InRound (meaning g.T.Theory l.theory) S l.place l.initial.manager.register.now.rows.now l.initial.manager.register.now.count l.manager.register.now.rows.now l.manager.register.now.count l.self.standing.now l.self.gathered.now)
