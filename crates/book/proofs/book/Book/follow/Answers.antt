use Rattle.std.proofs.Common.{◌-◌, ◌<◌, ◌∙◌, arith}
use Rattle.diagrams.specs.Diagram.{position_of}
use Rattle.diagrams.proofs.Shortening.{position_row}
use Rattle.diagrams.proofs.Following.{into_side, at_end}
use Rattle.book.proofs.book.Book.follow.Goals as goal

pub loop-n-preserved : goal.loop-n-preserved
loop-n-preserved c =
    let i = into_side c.args.self.now.lent.rows.now c.args.self.now.lent.count c.args.self.now.kept.sound c.loop-n.n c.args.choice c.side-n.result c.loop-n-test.true c.loop-n.invariant.0 c.side-n.ensures.with c.side-n.ensures.without in
    (i.0, i.1 ∙ c.loop-n.invariant.1)

pub loop-n-smaller : goal.loop-n-smaller
loop-n-smaller c =
    let rows = c.args.self.now.lent.rows.now in
    let n = c.loop-n.n in
    let lt : n - 2 < c.args.self.now.lent.count = omega (arith, c.loop-n.invariant.0) in
    let i = into_side rows c.args.self.now.lent.count c.args.self.now.kept.sound n c.args.choice c.side-n.result c.loop-n-test.true c.loop-n.invariant.0 c.side-n.ensures.with c.side-n.ensures.without in
    let less : 16 - position_of rows c.side-n.result < 16 - position_of rows n = omega (arith, i.2, position_row rows n c.loop-n-test.true, (c.args.self.now.kept.sound.ordered (n - 2) lt).in_range) in
    less

pub returns : goal.returns
returns c = at_end c.args.self.now.lent.rows.now c.loop-n.n c.args.choice c.loop-n-test.false ∙ c.loop-n.invariant.1
