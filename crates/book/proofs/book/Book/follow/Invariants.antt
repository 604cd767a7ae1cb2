use Rattle.std.proofs.Common.{◌≡◌, ◌+◌, ◌-◌, ◌<◌}
use Rattle.diagrams.specs.Diagram.{member, position_of}
use Rattle.book.proofs.book.Book.follow.Given as goal

abbrev pub invariant-loop-n : goal.invariant-loop-n
invariant-loop-n l = (l.n < l.self.lent.count + 2) × (member l.self.lent.rows.now l.n l.choice ≡ member l.self.lent.rows.now l.number l.choice)

abbrev pub decreases-loop-n : goal.decreases-loop-n
decreases-loop-n l = 16 - position_of l.self.lent.rows.now l.n
