use Rattle.std.proofs.Common.{ℕ, ◌+◌, ◌*◌, arith}
use lib.ListN.{length-replicate}
use Rattle.book.proofs.Grown.{fields}
use Rattle.book.proofs.Holds.{both_zeroed}
use Rattle.book.proofs.Recalling.{ready_at_first}
use Rattle.book.proofs.fixpoint.within.Goals as goal

pub invariant_of-manager : goal.invariant_of-manager
invariant_of-manager g c =
    let rows = length-replicate {A = ℕ} g.row.ROWS 0 in
    fields (ready_at_first g.row.PAIRS c.default-unions.result c.default-intersections.result c.default-unions.ensures.0 c.default-intersections.ensures.0 c.requires.kept c.link.ensures.indexed (omega (arith, c.requires.rows, rows)))

pub returns-clause-work : goal.returns-clause-work
returns-clause-work g c =
    let facts = g.T.Theory.facts c.args.inquiry.now.theory.now in
    let s = c.split_at_mut-used.ensures in
    let t = c.split_at_mut-standing.ensures in
    both_zeroed (2 * (facts + 1)) (2 * (c.facts.result + 1)) _ _ c.guarded.new.standing c.guarded.new.gathered _ c.args.numbers.now (omega (arith, c.facts.ensures)) c.guarded.ensures.standing c.guarded.ensures.gathered
    (omega (arith, c.facts.ensures, s.front_len, t.front_len, t.back_len)) s.back
