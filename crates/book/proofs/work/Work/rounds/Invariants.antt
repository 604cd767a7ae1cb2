use Rattle.theory.specs.Means.{meaning}
use Rattle.theory.specs.Rounds.{Question, start}
use Rattle.saturation.specs.Stages.{BothHalves, AfterRounds}
use Rattle.book.specs.Steps.{Stepped}
use Rattle.book.proofs.work.Work.rounds.Given as goal

abbrev pub invariant-loop-gaining : goal.invariant-loop-gaining
invariant-loop-gaining g l = Stepped l.initial.manager l.manager l.initial.self l.self
    × ((q : Question) → BothHalves (g.T.Theory.facts l.theory) l.initial.manager.register.now.rows.now l.initial.manager.register.now.count l.initial.self.standing.now l.initial.self.gathered.now (λ c. start (meaning g.T.Theory l.theory) q c)
    → AfterRounds (meaning g.T.Theory l.theory) q l.gaining l.initial.manager.register.now.rows.now l.initial.manager.register.now.count l.manager.register.now.rows.now l.manager.register.now.count l.self.standing.now l.self.gathered.now)
