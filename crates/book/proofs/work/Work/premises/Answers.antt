use Rattle.std.proofs.Common.{sym, refl, ◌∙◌, rules}
use Rattle.book.proofs.Grown.{ready, grown_none}
use Rattle.book.proofs.Holds.{held_small}
use Rattle.book.proofs.Meeting.{none_meet, asked_meet}
use Rattle.book.proofs.work.Work.premises.Goals as goal

pub returns-in_default-clause-enlarged : goal.returns-in_default-clause-enlarged
returns-in_default-clause-enlarged c = let m = c.args.manager.now in grown_none m.register.now (ready m).kept

pub returns-in_default-clause-meets : goal.returns-in_default-clause-meets
returns-in_default-clause-meets c =
    let m = c.args.manager.now in
    none_meet m.register.now (ready m).kept.sound c.args.self.now c.args.rule (sym c.asked_for.ensures ∙ c.in_default.is)

pub overflow_cast-left-2 : goal.overflow_cast-left-2
overflow_cast-left-2 c =
    let small = held_small (ready c.args.manager.now).kept (c.requires.standing c.in-Some.a) in search rules

pub overflow_cast-right-2 : goal.overflow_cast-right-2
overflow_cast-right-2 c =
    let small = held_small (ready c.args.manager.now).kept (c.requires.standing c.in-Some.b) in search rules

pub returns-clause-meets : goal.returns-clause-meets
returns-clause-meets c =
    let m = c.args.manager.now in
    asked_meet m.register.now (ready m).kept.sound c.args.self.now c.args.rule c.in-Some.a c.in-Some.b _ _ (sym c.asked_for.ensures ∙ c.in-Some.is) refl refl c.apply.new.self.register.now c.apply.result c.apply.ensures.applied
