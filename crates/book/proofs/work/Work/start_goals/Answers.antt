use Rattle.std.proofs.Common.{◌≡◌, suc, ◌+◌, ◌<◌, length, set, sym, refl, ◌∙◌, subst, arith, length-set}
use Rattle.theory.specs.Means.{meaning}
use Rattle.saturation.specs.Stages.{Half, opposed}
use Rattle.saturation.proofs.Starting.{goals_begin, goal_without, goal_opposed}
use Rattle.book.proofs.Holds.{holding_set}
use Rattle.book.proofs.Opposites.{opposite_below}
use Rattle.book.proofs.work.Work.start_goals.Goals as goal

pub loop-goal-init : goal.loop-goal-init
loop-goal-init g c = (refl, refl, refl, λ count h. h, λ S rows count h. goals_begin (meaning g.T.Theory c.args.theory.now) c.args.goals.now S rows count c.args.self.now.standing.now h)

pub loop-goal-preserved-in_default : goal.loop-goal-preserved-in_default
loop-goal-preserved-in_default g c =
    let m = meaning g.T.Theory c.args.theory.now in
    let goals = c.args.goals.now in
    let w = c.loop-goal.self in
    let j = c.loop-goal.goal-index in
    let s = c.loop-goal.invariant in
    let one : suc j ≡ j + 1 = omega arith in (
      s.0,
      s.1,
      s.2,
      s.3,
      λ S rows count h. subst (λ z. Half m.facts rows count w.standing.now (opposed m goals z S)) one
          (goal_without m goals S rows count w.standing.now j (s.4 S rows count h) (sym c.denied.ensures ∙ c.in_default.is)),
    )

pub bounds-self-opposite : goal.bounds-self-opposite
bounds-self-opposite g c =
    let lt = opposite_below g.T.Theory c.args.theory.now _ c.in-Some.opposite (sym c.denied.ensures ∙ c.in-Some.is) in
    omega (arith, lt, c.requires, c.loop-goal.invariant.2)

pub loop-goal-preserved : goal.loop-goal-preserved
loop-goal-preserved g c =
    let m = meaning g.T.Theory c.args.theory.now in
    let goals = c.args.goals.now in
    let w = c.loop-goal.self in
    let j = c.loop-goal.goal-index in
    let s = c.loop-goal.invariant in
    let o = c.in-Some.opposite in
    let below = opposite_below g.T.Theory c.args.theory.now _ o (sym c.denied.ensures ∙ c.in-Some.is) in
    let lt : o < length w.standing.now = omega (arith, below, c.requires, s.2) in
    let one : suc j ≡ j + 1 = omega arith in (
      s.0,
      s.1,
      length-set w.standing.now o 1 ∙ s.2,
      λ count h. holding_set w.standing.now count o 1 lt (omega arith) (s.3 count h),
      λ S rows count h. subst (λ z. Half m.facts rows count (set w.standing.now o 1) (opposed m goals z S)) one
          (goal_opposed m goals S rows count w.standing.now j (s.4 S rows count h) o (sym c.denied.ensures ∙ c.in-Some.is) below lt),
    )

pub returns-clause-opposes : goal.returns-clause-opposes
returns-clause-opposes g c S rows count h =
    let m = meaning g.T.Theory c.args.theory.now in
    let all : c.loop-goal.goal-index ≡ length c.args.goals.now = omega arith in
    subst (λ z. Half m.facts rows count c.loop-goal.self.standing.now (opposed m c.args.goals.now z S)) all (c.loop-goal.invariant.4 S rows count h)
