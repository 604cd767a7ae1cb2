use Rattle.diagrams.proofs.Applied.{step}
use Rattle.book.proofs.Grown.{ready}
use Rattle.book.proofs.manager.Manager.split.Goals as goal

pub returns : goal.returns
returns c =
    let m = c.args.self.now in
    let t = m.register.now in
    let r = ready m in
    step t.rows.now t.count r.kept.sound c.args.a c.args.b c.first-position.result c.half.result c.half-2.result c.half-3.result c.half-4.result
    c.requires.left.1 c.requires.right.1 (c.requires.left.0, c.requires.right.0) c.first-position.ensures c.half.ensures c.half-2.ensures c.half-3.ensures c.half-4.ensures
