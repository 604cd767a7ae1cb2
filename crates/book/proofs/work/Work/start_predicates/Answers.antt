use Rattle.std.proofs.Common.{◌≡◌, suc, ◌+◌, length, refl, subst, arith}
use Rattle.saturation.specs.Stages.{Started, StartSet}
use Rattle.saturation.proofs.Saturating.{too_many_more}
use Rattle.saturation.proofs.Starting.{start_begins, start_set_more}
use Rattle.book.proofs.Failing.{failed}
use Rattle.book.proofs.Grown.{ready}
use Rattle.book.proofs.Holds.{stepped_none, carried_on}
use Rattle.book.proofs.work.Work.start_predicates.Goals as goal

pub loop-position-init : goal.loop-position-init
loop-position-init c =
    let r = c.args.manager.now.register in
    let kept = (ready c.args.manager.now).kept in (
      stepped_none c.args.manager.now c.args.self.now c.requires.standing c.requires.gathered,
      λ facts below zeros. start_begins facts c.args.predicates.now r.now.rows.now r.now.count c.args.self.now.standing.now kept.sound (λ k lt. zeros k),
    )

pub returns-in_err-gather_position-clause-starts : goal.returns-in_err-gather_position-clause-starts
returns-in_err-gather_position-clause-starts c facts below zeros =
    let t = c.args.manager.now.register.now in
    let ps = c.args.predicates.now in
    let k = c.loop-position.position in
    failed c.from_residual.result c.from_residual.ensures.0 _ _
    (too_many_more t.rows.now t.count (StartSet ps (suc k)) (StartSet ps (length ps)) (start_set_more ps (suc k) (length ps) (omega (arith, c.loop-position-test.true)))
    (c.in_err-gather_position.ensures.positioned facts ps t.rows.now t.count refl (below k c.loop-position-test.true) (c.loop-position.invariant.1 facts below zeros)))

pub loop-position-preserved : goal.loop-position-preserved
loop-position-preserved c =
    let s = c.loop-position.invariant in
    let t = c.args.manager.now.register.now in
    let u = c.gather_position.new.manager.register.now in
    let ps = c.args.predicates.now in
    let k = c.loop-position.position in
    let one : suc k ≡ k + 1 = omega arith in (
      carried_on s.0 c.gather_position.ensures.stepped,
      λ facts below zeros. subst (λ z. Started facts ps z t.rows.now t.count u.rows.now u.count c.gather_position.new.self.standing.now) one
          (c.in_ok-gather_position.ensures.positioned facts ps t.rows.now t.count refl (below k c.loop-position-test.true) (s.1 facts below zeros)),
    )

pub returns-clause-starts : goal.returns-clause-starts
returns-clause-starts c facts below zeros =
    let t = c.args.manager.now.register.now in
    let u = c.loop-position.manager.register.now in
    let ps = c.args.predicates.now in
    let all : c.loop-position.position ≡ length ps = omega arith in
    subst (λ z. Started facts ps z t.rows.now t.count u.rows.now u.count c.loop-position.self.standing.now) all (c.loop-position.invariant.1 facts below zeros)
