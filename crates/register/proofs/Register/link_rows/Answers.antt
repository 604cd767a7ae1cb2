use Rattle.register.proofs.Linking.{indexed_all}
use Rattle.register.proofs.Register.link_rows.Goals as goal

pub returns-clause-indexed : goal.returns-clause-indexed
returns-clause-indexed g c within room some =
    let s = c.args.self.now in
    indexed_all g.R.Row.hash s.rows.now s.count c.link_all.new.index.heads.now c.link_all.new.index.next.now within c.link_all.ensures.indexed
