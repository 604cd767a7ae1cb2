use Rattle.std.proofs.Common.{arith}
use Rattle.terms.proofs.Growing.{puts_kept}
use Rattle.terms.proofs.table.TermTable.put.Goals as goal

pub invariant_of-self : goal.invariant_of-self
invariant_of-self c =
    let t = c.args.self.now in
    let p = c.put.ensures.put (c.link_rows.ensures.indexed t.within (omega arith) (omega arith)) in
    let k = puts_kept t.lent.rows.now t.lent.count c.args.term _ _ t.few t.table _ c.put.result p.puts (omega arith) (omega arith) c.requires in
    record { within = k.0 t.within; few = k.1; table = k.2 }
