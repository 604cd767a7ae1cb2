use Rattle.std.proofs.Common.{◌≡◌, ℕ, List, length}
use Rattle.theory.specs.Means.{meaning}
use Rattle.diagrams.specs.declared.Row.{Row}
use Rattle.saturation.specs.Stages.{Family, Half, opposed}
use Rattle.book.specs.Steps.{Holding}
use Rattle.book.proofs.work.Work.start_goals.Given as goal

abbrev pub invariant-loop-goal : goal.invariant-loop-goal
invariant-loop-goal g l =
    (l.self.standing.ghost_name ≡ l.initial.self.standing.ghost_name) × (l.self.gathered ≡ l.initial.self.gathered) × (length l.self.standing.now ≡ length l.initial.self.standing.now)
    × ((count : ℕ) → Holding l.initial.self.standing.now count → Holding l.self.standing.now count)
    × ((S : Family) (rows : List Row) (count : ℕ) → Half (g.T.Theory.facts l.theory) rows count l.initial.self.standing.now S
    → Half (g.T.Theory.facts l.theory) rows count l.self.standing.now (opposed (meaning g.T.Theory l.theory) l.goals l.goal-index S))
