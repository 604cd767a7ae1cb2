use Rattle.std.proofs.Common.{◌-◌, min}
use Rattle.diagrams.specs.Diagram.{position_of}
use Rattle.book.proofs.manager.Manager.+apply.Given as goal

abbrev pub decreases-apply : goal.decreases-apply
decreases-apply l = 16 - min (position_of l.self.now.register.now.rows.now l.a) (position_of l.self.now.register.now.rows.now l.b)
