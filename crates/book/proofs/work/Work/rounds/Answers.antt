use Rattle.std.proofs.Common.{◌≡◌, suc, ◌+◌, get_or, sym, subst, arith}
use Rattle.theory.specs.Rounds.{after}
use Rattle.theory.specs.Means.{meaning}
use Rattle.saturation.specs.Working.{Made}
use Rattle.saturation.specs.Stages.{Turned, AfterRounds, QuietAt}
use Rattle.saturation.proofs.Turning.{rounds_begin, round_full, one_round_more, rounds_quiet, few_made}
use Rattle.book.proofs.Failing.{failed}
use Rattle.book.proofs.Grown.{ready}
use Rattle.book.proofs.Holds.{stepped_none, carried_on}
use Rattle.book.proofs.work.Work.rounds.Goals as goal

pub loop-gaining-init : goal.loop-gaining-init
loop-gaining-init g c =
    let kept = (ready c.args.manager.now).kept in (
      stepped_none c.args.manager.now c.args.self.now c.requires.standing c.requires.gathered,
      λ q h. rounds_begin (meaning g.T.Theory c.args.theory.now) q kept.sound h,
    )

pub returns-in_err-changed-clause-ends : goal.returns-in_err-changed-clause-ends
returns-in_err-changed-clause-ends g c q h =
    let m = meaning g.T.Theory c.args.theory.now in
    let a = c.loop-gaining.invariant.1 q h in
    failed c.from_residual.result c.from_residual.ensures.0 _ _ (round_full m q a (c.in_err-changed.ensures.turns (λ z. after m q z c.loop-gaining.gaining) a.halves))

pub returns-then-not-changed-clause-ends : goal.returns-then-not-changed-clause-ends
returns-then-not-changed-clause-ends g c q h =
    let m = meaning g.T.Theory c.args.theory.now in
    let r = c.args.manager.now.register.now in
    let t = c.loop-gaining.manager.register.now in
    let u = c.next_round.new.manager.register.now in
    let w = c.next_round.new.self in
    let k = c.loop-gaining.gaining in
    let a = c.loop-gaining.invariant.1 q h in
    let quiet = rounds_quiet m q a (subst (λ z. Turned m (λ x. after m q x k) t.rows.now t.count u.rows.now u.count w.standing.now w.gathered.now z) c.if-not-changed.true (c.in_ok-changed.ensures.turns (λ x. after m q x k) a.halves)) in
    let at = subst (λ z. QuietAt m q r.rows.now r.count u.rows.now u.count (get_or w.standing.now z 0) k) (sym c.facts-facts.ensures) quiet in
    let o = c.outcome.ensures in
    subst (λ z. QuietAt m q r.rows.now r.count u.rows.now u.count c.outcome.result.0 z) (sym o.rounds) (subst (λ z. QuietAt m q r.rows.now r.count u.rows.now u.count z k) (sym o.number) at)

pub loop-gaining-preserved : goal.loop-gaining-preserved
loop-gaining-preserved g c =
    let m = meaning g.T.Theory c.args.theory.now in
    let r = c.args.manager.now.register.now in
    let t = c.loop-gaining.manager.register.now in
    let u = c.next_round.new.manager.register.now in
    let w = c.next_round.new.self in
    let s = c.loop-gaining.invariant in
    let k = c.loop-gaining.gaining in
    let one : suc k ≡ k + 1 = omega arith in (
      carried_on s.0 c.next_round.ensures.stepped,
      λ q h. let a = s.1 q h in
          subst (λ z. AfterRounds m q z r.rows.now r.count u.rows.now u.count w.standing.now w.gathered.now) one
          (one_round_more m q a (subst (λ z. Turned m (λ x. after m q x k) t.rows.now t.count u.rows.now u.count w.standing.now w.gathered.now z) c.if-not-changed.false (c.in_ok-changed.ensures.turns (λ x. after m q x k) a.halves))),
    )

pub returns-clause-ends : goal.returns-clause-ends
returns-clause-ends g c q h =
    let m = meaning g.T.Theory c.args.theory.now in
    let all : c.loop-gaining.gaining ≡ m.facts + 2 = omega (arith, c.facts-facts.ensures) in
    absurd (few_made m q (g.T.Theory.lawful c.args.theory.now) (subst (Made m q) all (c.loop-gaining.invariant.1 q h).made))
