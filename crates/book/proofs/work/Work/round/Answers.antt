use Rattle.std.proofs.Common.{◌≡◌, suc, ◌+◌, ◌-◌, ◌<◌, length, sym, ◌∙◌, subst, arith}
use Rattle.theory.specs.Theory.{Names}
use Rattle.theory.specs.Means.{meaning}
use Rattle.saturation.specs.Stages.{InRound, RoundSet}
use Rattle.saturation.proofs.Saturating.{too_many_more}
use Rattle.saturation.proofs.Placing.{round_begins, place_empty, round_set_more}
use Rattle.book.proofs.Failing.{failed}
use Rattle.book.proofs.Grown.{ready}
use Rattle.book.proofs.Holds.{stepped_none, carried_on}
use Rattle.book.proofs.work.Work.round.Goals as goal

pub loop-place-init : goal.loop-place-init
loop-place-init g c =
    let r = c.args.manager.now.register in
    let w = c.args.self.now in
    let kept = (ready c.args.manager.now).kept in (
      stepped_none c.args.manager.now w c.requires.standing c.requires.gathered,
      λ S h. round_begins (meaning g.T.Theory c.args.theory.now) S r.now.rows.now r.now.count w.standing.now w.gathered.now kept.sound h,
    )

pub loop-place-preserved-in_default : goal.loop-place-preserved-in_default
loop-place-preserved-in_default g c =
    let m = meaning g.T.Theory c.args.theory.now in
    let t = c.args.manager.now.register.now in
    let u = c.loop-place.manager.register.now in
    let w = c.loop-place.self in
    let s = c.loop-place.invariant in
    let k = c.loop-place.place in
    let one : suc k ≡ k + 1 = omega arith in (
      s.0,
      λ S h. subst (λ z. InRound m S z t.rows.now t.count u.rows.now u.count w.standing.now w.gathered.now) one (place_empty m S k (s.1 S h) (sym c.rule.ensures ∙ c.in_default.is)),
    )

pub derive-requires-clause-names : goal.derive-requires-clause-names
derive-requires-clause-names g c =
    let m = meaning g.T.Theory c.args.theory.now in
    let names = (g.T.Theory.lawful c.args.theory.now).bounds.names c.loop-place.place c.in-Some.rule (sym c.rule.ensures ∙ c.in-Some.is) in
    let few : m.facts ≡ length c.loop-place.self.standing.now - 1 = omega (arith, c.loop-place.invariant.0.long, c.requires.long) in
    subst (λ z. Names z c.in-Some.rule) few names

pub returns-in_err-derive-clause-rounded : goal.returns-in_err-derive-clause-rounded
returns-in_err-derive-clause-rounded g c S h =
    let m = meaning g.T.Theory c.args.theory.now in
    let t = c.args.manager.now.register.now in
    let s = c.loop-place.invariant in
    let k = c.loop-place.place in
    let below : k < m.places = omega (arith, c.loop-place-test.true, c.places-place-end.ensures) in
    failed c.from_residual.result c.from_residual.ensures.0 _ _
    (too_many_more t.rows.now t.count (RoundSet m S (suc k)) (RoundSet m S m.places) (round_set_more m S (suc k) m.places (omega (arith, below)))
    (c.in_err-derive.ensures.derived m S k t.rows.now t.count (s.0.long ∙ c.requires.long) (sym c.rule.ensures ∙ c.in-Some.is) (s.1 S h)))

pub loop-place-preserved : goal.loop-place-preserved
loop-place-preserved g c =
    let m = meaning g.T.Theory c.args.theory.now in
    let t = c.args.manager.now.register.now in
    let u = c.derive.new.manager.register.now in
    let w = c.derive.new.self in
    let s = c.loop-place.invariant in
    let k = c.loop-place.place in
    let one : suc k ≡ k + 1 = omega arith in (
      carried_on s.0 c.derive.ensures.stepped,
      λ S h. subst (λ z. InRound m S z t.rows.now t.count u.rows.now u.count w.standing.now w.gathered.now) one
          (c.in_ok-derive.ensures.derived m S k t.rows.now t.count (s.0.long ∙ c.requires.long) (sym c.rule.ensures ∙ c.in-Some.is) (s.1 S h)),
    )

pub returns-clause-rounded : goal.returns-clause-rounded
returns-clause-rounded g c S h =
    let m = meaning g.T.Theory c.args.theory.now in
    let t = c.args.manager.now.register.now in
    let u = c.loop-place.manager.register.now in
    let w = c.loop-place.self in
    let all : c.loop-place.place ≡ m.places = omega (arith, c.places-place-end.ensures) in
    subst (λ z. InRound m S z t.rows.now t.count u.rows.now u.count w.standing.now w.gathered.now) all (c.loop-place.invariant.1 S h)
