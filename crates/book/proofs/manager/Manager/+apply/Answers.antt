use Rattle.std.proofs.Common.{Ok, Err, sym, subst}
use Rattle.diagrams.specs.Making.{Adds}
use Rattle.diagrams.specs.Books.{union_or_intersection}
use Rattle.diagrams.proofs.Applied.{shortened, broken, below, falls_without, without_full, held_without, held_later, falls_with, with_full, fit, done}
use Rattle.book.proofs.Grown.{ready, grown_none}
use Rattle.book.proofs.Recalling.{recalled, table_right, right_entry}
use Rattle.book.proofs.manager.Manager.+apply.Goals as goal

pub returns-in-Some-clause-enlarged : goal.returns-in-Some-clause-enlarged
returns-in-Some-clause-enlarged t c = let m = c.args.self.now in grown_none m.register.now (ready m).kept

pub returns-in-Some-clause-applied : goal.returns-in-Some-clause-applied
returns-in-Some-clause-applied t c =
    let m = c.args.self.now in
    let b = m.register.now in
    shortened b.rows.now b.count (ready m).kept.sound c.args.op c.args.a c.args.b c.in-Some.n c.requires.left c.requires.right c.in-Some.ensures

pub returns-in-Some-recall-clause-enlarged : goal.returns-in-Some-recall-clause-enlarged
returns-in-Some-recall-clause-enlarged t c = let m = c.args.self.now in grown_none m.register.now (ready m).kept

pub returns-in-Some-recall-clause-applied : goal.returns-in-Some-recall-clause-applied
returns-in-Some-recall-clause-applied t c =
    let m = c.args.self.now in
    let b = m.register.now in
    let r = ready m in
    recalled c.args.op b.rows.now b.count r.kept.sound _ c.args.a c.args.b c.in-Some-recall.n c.in_default.ensures.0 c.in_default.ensures.1
    (table_right c.args.op b.rows.now b.count m.heads.now m.next.now m.unions.now m.intersections.now r) c.in-Some-recall.ensures

pub apply-requires : goal.apply-requires
apply-requires t c =
    let st = c.split-split.ensures in
    (below (falls_without c.args.op st) c.decreases, held_without c.args.op st)

pub returns-in_err-without-clause-applied : goal.returns-in_err-without-clause-applied
returns-in_err-without-clause-applied t c =
    let b = c.args.self.now.register.now in
    broken b.rows.now b.count _ _ (union_or_intersection c.args.op b.rows.now c.args.a c.args.b) c.from_residual.result c.from_residual.ensures.0
    (without_full c.args.op c.split-split.ensures c.in_err-without.ensures.applied)

pub apply-requires-2 : goal.apply-requires-2
apply-requires-2 t c =
    let st = c.split-split.ensures in
    let e = c.apply.ensures.enlarged.extends in
    (below (falls_with c.args.op st e) c.decreases, held_later c.args.op st e)

pub returns-in_err-with-clause-applied : goal.returns-in_err-with-clause-applied
returns-in_err-with-clause-applied t c =
    let b = c.args.self.now.register.now in
    broken b.rows.now b.count _ _ (union_or_intersection c.args.op b.rows.now c.args.a c.args.b) c.from_residual-in_err-with.result c.from_residual-in_err-with.ensures.0
    (with_full c.args.op c.split-split.ensures c.apply.ensures.enlarged.extends c.in_ok-without.ensures.applied c.in_err-with.ensures.applied)

pub make-requires : goal.make-requires
make-requires t c = record { fit = fit c.args.op c.split-split.ensures c.apply.ensures.enlarged.extends c.in_ok-without.ensures.applied c.in_ok-with.ensures.applied }

pub returns-in_err-n-clause-applied : goal.returns-in_err-n-clause-applied
returns-in_err-n-clause-applied t c =
    let b = c.args.self.now.register.now in
    let u = c.make.new.self.register.now in
    broken b.rows.now b.count _ _ (union_or_intersection c.args.op b.rows.now c.args.a c.args.b) c.from_residual-in_err-n.result c.from_residual-in_err-n.ensures.0
    (done c.args.op c.split-split.ensures c.apply.ensures.enlarged.extends c.in_ok-without.ensures.applied c.in_ok-with.ensures.applied u.rows.now u.count (Err c.in_err-n.field-0.0) c.in_err-n.ensures.made)

pub remember-requires : goal.remember-requires
remember-requires t c =
    let b = c.args.self.now.register.now in
    let u = c.make.new.self.register.now in
    let n = c.in_ok-n.n in
    let made : Adds b.rows.now b.count u.rows.now u.count (union_or_intersection c.args.op b.rows.now c.args.a c.args.b) n =
    done c.args.op c.split-split.ensures c.apply.ensures.enlarged.extends c.in_ok-without.ensures.applied c.in_ok-with.ensures.applied u.rows.now u.count (Ok n) c.in_ok-n.ensures.made in
    right_entry c.args.op b.rows.now b.count u.rows.now u.count c.args.a c.args.b n (ready c.args.self.now).kept.sound c.requires.left c.requires.right made

pub returns-clause-applied : goal.returns-clause-applied
returns-clause-applied t c =
    let b = c.args.self.now.register.now in
    let u = c.make.new.self.register.now in
    let s = union_or_intersection c.args.op b.rows.now c.args.a c.args.b in
    subst (λ z. Adds b.rows.now b.count z.now.rows.now z.now.count s c.in_ok-n.n) (sym c.remember.ensures.same)
    (done c.args.op c.split-split.ensures c.apply.ensures.enlarged.extends c.in_ok-without.ensures.applied c.in_ok-with.ensures.applied u.rows.now u.count (Ok c.in_ok-n.n) c.in_ok-n.ensures.made)
