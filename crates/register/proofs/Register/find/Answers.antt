use Rattle.std.proofs.Common.{◌-◌, ◌<◌, length, ◌∙◌, arith}
use Rattle.std.proofs.lemmas.List.{get_or_default}
use Rattle.register.proofs.Walking.{first_passed, next_passed}
use Rattle.register.proofs.Register.find.Goals as goal

pub loop-link-init : goal.loop-link-init
loop-link-init g c =
    let s = c.args.self.now in
    let x = c.args.index.now in (
      omega arith,
      first_passed g.R.Row.hash s.rows.now s.count x.heads.now x.next.now c.args.row c.hash.result c.bucket-b.result c.downwards-link.result
          c.hash.ensures c.bucket-b.ensures.value c.if-b-index.false c.downwards-link.ensures,
    )

pub loop-link-preserved : goal.loop-link-preserved
loop-link-preserved g c =
    let s = c.args.self.now in
    let x = c.args.index.now in
    let at = c.loop-link.link - 1 in
    let lt : at < length s.rows.now = omega (arith, c.loop-link.invariant.0, c.requires.rows) in (
      omega (arith, c.loop-link.invariant.0),
      λ i. next_passed g.R.Row.hash s.rows.now s.count x.heads.now x.next.now c.args.row c.loop-link.link at c.downwards-link-in-loop-link.result
          (omega arith)
          (λ q. c.if-matches.ensures.not (get_or_default s.rows.now at c.index-self-at.result c.args.row lt ∙ q))
          c.downwards-link-in-loop-link.ensures (c.loop-link.invariant.1 i) i,
    )
