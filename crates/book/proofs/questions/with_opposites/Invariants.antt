use Rattle.std.proofs.Common.{◌≡◌, take}
use Rattle.theory.specs.Abstraction.{with_opposites}
use Rattle.theory.specs.Means.{meaning}
use Rattle.book.proofs.questions.with_opposites.Given as goal

abbrev pub invariant-loop-predicate : goal.invariant-loop-predicate
invariant-loop-predicate g l = l.pairs.items ≡ with_opposites (meaning g.T.Theory l.theory) (take l.predicate-index l.predicates)
