use Rattle.std.proofs.Common.{◌≡◌, ℕ, ◌<◌, length, get_or}
use Rattle.saturation.specs.Stages.{Started}
use Rattle.book.specs.Steps.{Stepped}
use Rattle.book.proofs.work.Work.start_predicates.Given as goal

abbrev pub invariant-loop-position : goal.invariant-loop-position
invariant-loop-position l = Stepped l.initial.manager l.manager l.initial.self l.self
    × ((facts : ℕ) → ((k : ℕ) → k < length l.predicates → get_or l.predicates k 0 < facts) → ((k : ℕ) → get_or l.initial.self.standing.now k 0 ≡ 0)
    → Started facts l.predicates l.position l.initial.manager.register.now.rows.now l.initial.manager.register.now.count l.manager.register.now.rows.now l.manager.register.now.count l.self.standing.now)
