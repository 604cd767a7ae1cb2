use Rattle.std.proofs.Common.{arith}
use Rattle.register.proofs.Putting.{put_found, put_nowhere, put_behind}
use Rattle.register.proofs.Register.put.Goals as goal

pub returns-in-Some-clause-put : goal.returns-in-Some-clause-put
returns-in-Some-clause-put g c =
    let s = c.args.self.now in
    let x = c.args.index.now in
    put_found g.R.Row.hash c.args.most s.rows.now s.count x.heads.now x.next.now c.args.row c.in-Some.earlier c.in-Some.ensures

pub returns-then-at-room-clause-put : goal.returns-then-at-room-clause-put
returns-then-at-room-clause-put g c =
    let s = c.args.self.now in
    let x = c.args.index.now in
    put_nowhere g.R.Row.hash c.args.most s.rows.now s.count x.heads.now x.next.now c.args.row (omega arith) c.in_default.ensures

pub returns-clause-put : goal.returns-clause-put
returns-clause-put g c =
    let s = c.args.self.now in
    let x = c.args.index.now in
    put_behind g.R.Row.hash c.args.most s.rows.now s.count x.heads.now x.next.now c.args.row c.hash.result c.link.new.self.heads.now c.link.new.self.next.now
    (omega arith) (omega arith) (omega arith) c.hash.ensures c.link.ensures.heads c.link.ensures.next c.in_default.ensures
