use Rattle.std.proofs.Common.{length, sym, subst}
use Rattle.theory.specs.Rounds.{start}
use Rattle.theory.specs.Abstraction.{ask}
use Rattle.theory.specs.Means.{meaning}
use Rattle.saturation.specs.Stages.{Half, BothHalves, started}
use Rattle.saturation.proofs.Starting.{starts, halves_begin}
use Rattle.saturation.proofs.Turning.{start_full}
use Rattle.book.specs.Steps.{Holding}
use Rattle.book.proofs.Answering.{saturation_ends}
use Rattle.book.proofs.Failing.{failed}
use Rattle.book.proofs.work.Work.saturate.Goals as goal

pub returns-in_err-start_predicates-clause-saturates : goal.returns-in_err-start_predicates-clause-saturates
returns-in_err-start_predicates-clause-saturates g c =
    let i = c.args.inquiry.now in
    let m = meaning g.T.Theory i.theory.now in
    let t = c.args.manager.now.register.now in
    failed c.from_residual.result c.from_residual.ensures.0 _ _
    (start_full m (ask i.predicates.now i.goals.now) (g.T.Theory.lawful i.theory.now) t.rows.now t.count (c.in_err-start_predicates.ensures.starts m.facts i.proper.predicates_are_facts c.requires.standing))

pub rounds-requires-clause-standing : goal.rounds-requires-clause-standing
rounds-requires-clause-standing g c =
    let n = c.start_predicates.new.manager.register.now.count in
    subst (λ z. Holding z n) (sym c.begin.ensures.standing) (c.start_goals.ensures.holding n c.start_predicates.ensures.stepped.standing_held)

pub rounds-requires-clause-gathered : goal.rounds-requires-clause-gathered
rounds-requires-clause-gathered g c =
    let n = c.start_predicates.new.manager.register.now.count in
    subst (λ z. Holding z n) (sym c.begin.ensures.gathered) (c.start_goals.ensures.holding n c.start_predicates.ensures.stepped.standing_held)

pub returns-clause-saturates : goal.returns-clause-saturates
returns-clause-saturates g c =
    let i = c.args.inquiry.now in
    let m = meaning g.T.Theory i.theory.now in
    let ps = i.predicates.now in
    let gs = i.goals.now in
    let q = ask ps gs in
    let t = c.start_predicates.new.manager.register.now in
    let u = c.rounds.new.manager.register.now in
    let w = c.start_goals.new.self.standing.now in
    let b = c.begin.ensures in
    let at = c.in_ok-start_predicates.ensures.starts m.facts i.proper.predicates_are_facts c.requires.standing in
    let olds : Half m.facts t.rows.now t.count w (λ z. start m q z) = starts m ps gs t.rows.now t.count w (c.start_goals.ensures.opposes (started ps (length ps)) t.rows.now t.count at.olds) in
    let halves : BothHalves m.facts t.rows.now t.count c.begin.new.standing c.begin.new.gathered (λ z. start m q z) =
    subst (λ y. BothHalves m.facts t.rows.now t.count c.begin.new.standing y (λ z. start m q z)) (sym b.gathered)
    (subst (λ y. BothHalves m.facts t.rows.now t.count y w (λ z. start m q z)) (sym b.standing) (halves_begin m.facts (λ z. start m q z) olds)) in
    saturation_ends m q (g.T.Theory.lawful i.theory.now) at.progress u.rows.now u.count c.rounds.result (c.rounds.ensures.ends q halves)
