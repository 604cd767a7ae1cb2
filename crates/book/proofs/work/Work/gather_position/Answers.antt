use Rattle.theory.specs.Rounds.{bit}
use Rattle.diagrams.proofs.Positions.{position_halves, position_fit, position_made}
use Rattle.saturation.proofs.Starting.{position_full}
use Rattle.book.proofs.Failing.{failed}
use Rattle.book.proofs.Grown.{ready}
use Rattle.book.proofs.Meeting.{position_gathered}
use Rattle.book.proofs.work.Work.gather_position.Goals as goal

pub make-requires : goal.make-requires
make-requires c =
    let t = c.args.manager.now.register.now in
    record { fit = position_fit t.rows.now t.count (ready c.args.manager.now).kept.sound c.args.position c.requires.position }

pub returns-in_err-chosen-clause-positioned : goal.returns-in_err-chosen-clause-positioned
returns-in_err-chosen-clause-positioned c facts ps rows₀ count₀ here lt h =
    let t = c.args.manager.now.register.now in
    let k = c.args.position in
    failed c.from_residual.result c.from_residual.ensures.0 _ _
    (position_full facts ps k h (c.in_err-chosen.ensures.made t.rows.now t.count (λ z. bit z k) (position_halves t.rows.now t.count (ready c.args.manager.now).kept.sound k c.requires.position)))

pub gather-requires-clause-number : goal.gather-requires-clause-number
gather-requires-clause-number c =
    let t = c.args.manager.now.register.now in
    (position_made t.rows.now t.count (ready c.args.manager.now).kept.sound c.args.position c.requires.position c.in_ok-chosen.ensures.made).held

pub returns-clause-positioned : goal.returns-clause-positioned
returns-clause-positioned c facts ps rows₀ count₀ here lt h =
    let t = c.args.manager.now.register.now in
    position_gathered facts ps c.args.position h c.make.new.self.register.now (position_made t.rows.now t.count (ready c.args.manager.now).kept.sound c.args.position c.requires.position c.in_ok-chosen.ensures.made)
    c.args.fact here lt c.requires.fact c.gather.new.manager.register.now c.gather.new.numbers c.gather.result c.gather.ensures.gathers
