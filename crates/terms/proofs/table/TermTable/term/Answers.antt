use Rattle.std.proofs.Common.{◌<◌, ◌≤◌, subst, arith}
use Rattle.std.proofs.lemmas.List.{get_or-take}
use Rattle.equality.specs.Equality.{no_term}
use Rattle.terms.proofs.Meaning.{terms_many, terms_table}
use Rattle.terms.proofs.table.TermTable.term.Goals as goal

pub returns-clause-left : goal.returns-clause-left
returns-clause-left c =
    let t = c.args.self.now in
    let read = get_or-take t.lent.count t.lent.rows.now c.args.number no_term c.requires in
    subst (λ x. 1 ≤ x.arity → x.left < t.lent.count) read
    (λ used. omega (arith, (terms_table t).left_earlier c.args.number (omega (arith, terms_many t)) used))

pub returns-clause-right : goal.returns-clause-right
returns-clause-right c =
    let t = c.args.self.now in
    let read = get_or-take t.lent.count t.lent.rows.now c.args.number no_term c.requires in
    subst (λ x. 2 ≤ x.arity → x.right < t.lent.count) read
    (λ used. omega (arith, (terms_table t).right_earlier c.args.number (omega (arith, terms_many t)) used))
