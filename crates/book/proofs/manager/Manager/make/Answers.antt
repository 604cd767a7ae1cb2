use Rattle.std.proofs.Common.{◌+◌, ◌<◌, rules}
use Rattle.diagrams.specs.Applying.{row_with}
use Rattle.diagrams.proofs.MakingRows.{made_same}
use Rattle.book.proofs.Grown.{ready, grown_none, fields}
use Rattle.book.proofs.PutRows.{put_extends, put_makes, put_makes_none, place_small, putting}
use Rattle.book.proofs.Recalling.{ready_made}
use Rattle.book.proofs.manager.Manager.make.Goals as goal

pub returns-then-merge-clause-enlarged : goal.returns-then-merge-clause-enlarged
returns-then-merge-clause-enlarged c = let m = c.args.self.now in grown_none m.register.now (ready m).kept

pub returns-then-merge-clause-made : goal.returns-then-merge-clause-made
returns-then-merge-clause-made c =
    let t = c.args.self.now.register.now in
    made_same t.rows.now t.count c.args.position c.args.without c.args.with (c.if-merge.ensures.yes tt)

pub invariant_of-self : goal.invariant_of-self
invariant_of-self c =
    let m = c.args.self.now in
    let t = m.register.now in
    let r = ready m in
    let u = c.put.new.register in
    let p = c.put.ensures.put m.indexed in
    let e = put_extends t.rows.now t.count m.next.now c.args.position c.args.without c.args.with r.kept c.requires.fit (c.if-merge.ensures.not (λ t. t)) m.room u.rows.now u.count c.put.result (putting p c.row_of-row.ensures) in
    fields (ready_made r e p.indexed p.next_long)

pub returns-in_default-clause-enlarged : goal.returns-in_default-clause-enlarged
returns-in_default-clause-enlarged c =
    let m = c.args.self.now in
    let t = m.register.now in
    let u = c.put.new.register in
    let p = c.put.ensures.put m.indexed in
    record { rows = c.put.ensures.held; extends = put_extends t.rows.now t.count m.next.now c.args.position c.args.without c.args.with (ready m).kept c.requires.fit (c.if-merge.ensures.not (λ t. t)) m.room u.rows.now u.count c.put.result (putting p c.row_of-row.ensures) }

pub returns-in_default-clause-made : goal.returns-in_default-clause-made
returns-in_default-clause-made c =
    let m = c.args.self.now in
    let t = m.register.now in
    let u = c.put.new.register in
    let p = c.in_default.ensures.put m.indexed in
    put_makes_none t.rows.now t.count m.next.now c.args.position c.args.without c.args.with (ready m).kept c.requires.fit (c.if-merge.ensures.not (λ t. t)) m.room u.rows.now u.count _ (putting p c.row_of-row.ensures)

pub overflow_add-result : goal.overflow_add-result
overflow_add-result c =
    let m = c.args.self.now in
    let t = m.register.now in
    let u = c.put.new.register in
    let p = c.in-Some.ensures.put m.indexed in
    let small : c.in-Some.at + 2 < 65536 = place_small t.rows.now t.count m.next.now (row_with c.args.position c.args.without c.args.with) u.rows.now u.count c.in-Some.at (ready m).kept (putting p c.row_of-row.ensures) in
    search rules

pub returns-clause-enlarged : goal.returns-clause-enlarged
returns-clause-enlarged c =
    let m = c.args.self.now in
    let t = m.register.now in
    let u = c.put.new.register in
    let p = c.put.ensures.put m.indexed in
    record { rows = c.put.ensures.held; extends = put_extends t.rows.now t.count m.next.now c.args.position c.args.without c.args.with (ready m).kept c.requires.fit (c.if-merge.ensures.not (λ t. t)) m.room u.rows.now u.count c.put.result (putting p c.row_of-row.ensures) }

pub returns-clause-made : goal.returns-clause-made
returns-clause-made c =
    let m = c.args.self.now in
    let t = m.register.now in
    let u = c.put.new.register in
    let p = c.in-Some.ensures.put m.indexed in
    put_makes t.rows.now t.count m.next.now c.args.position c.args.without c.args.with (ready m).kept c.requires.fit (c.if-merge.ensures.not (λ t. t)) m.room u.rows.now u.count c.in-Some.at (putting p c.row_of-row.ensures)
