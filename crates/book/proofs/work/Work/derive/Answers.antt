use Rattle.std.proofs.Common.{◌∙◌, arith}
use Rattle.theory.specs.Theory.{conclusion}
use Rattle.saturation.proofs.Placing.{slot_below, concluded_known, premises_full}
use Rattle.book.proofs.Failing.{failed}
use Rattle.book.proofs.Meeting.{place_gathered, names_of, slot_of_known}
use Rattle.book.proofs.work.Work.derive.Goals as goal

pub returns-in_err-together-clause-derived : goal.returns-in_err-together-clause-derived
returns-in_err-together-clause-derived c m S i rows₀ count₀ long at h =
    let names = names_of m.facts c.args.rule long c.requires.names in
    failed c.from_residual.result c.from_residual.ensures.0 _ _ (premises_full m S i h c.args.rule at (c.in_err-together.ensures.meets m.facts S names h.olds))

pub returns-clause-derived : goal.returns-clause-derived
returns-clause-derived c m S i rows₀ count₀ long at h =
    let names = names_of m.facts c.args.rule long c.requires.names in
    let x = conclusion c.args.rule in
    let low = slot_below m.facts x (concluded_known m.facts c.args.rule names) in
    let is = c.slot_of-slot.ensures ∙ slot_of_known m.facts long x in
    place_gathered m S i h c.args.rule at names c.premises.new.manager.register.now (c.in_ok-together.ensures.meets m.facts S names h.olds)
    c.slot_of-slot.result is (omega (arith, is, low, long, c.args.self.now.halves)) c.gather.new.manager.register.now c.gather.new.numbers c.gather.result c.gather.ensures.gathers
