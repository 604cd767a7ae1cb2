use Rattle.std.proofs.Common.{◌≤◌, length}
use Rattle.register.specs.Chains.{Indexed}
use Rattle.register.proofs.Walking.{Passed}
use Rattle.register.proofs.Register.find.Given as goal

abbrev pub invariant-loop-link : goal.invariant-loop-link
invariant-loop-link g l =
    (l.link ≤ l.self.count)
    × (Indexed g.R.Row.hash l.self.rows.now l.self.count l.index.heads.now l.index.next.now
    → Passed g.R.Row.hash (length l.index.heads.now) l.self.rows.now l.self.count l.row l.link)

abbrev pub decreases-loop-link : goal.decreases-loop-link
decreases-loop-link g l = l.link
