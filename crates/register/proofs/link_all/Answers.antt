use Rattle.std.proofs.Common.{◌<◌, length, sym, refl, arith, rules}
use Rattle.std.proofs.lemmas.List.{get_or_read}
use Rattle.register.proofs.Linking.{no_rows, linked_row}
use Rattle.register.proofs.link_all.Goals as goal

pub loop-at-init : goal.loop-at-init
loop-at-init g c = (no_rows g.R.Row.hash c.args.rows.now _ _ c.requires.some c.requires.empty, refl, refl, refl, refl)

pub loop-at-preserved : goal.loop-at-preserved
loop-at-preserved g c =
    let lt : c.loop-at.at < length c.args.rows.now = omega arith in
    let x = c.loop-at.invariant in
    let l = c.loop-at.index in (
      linked_row g.R.Row.hash c.args.rows.now c.loop-at.at l.heads.now l.next.now c.index-rows-at.result c.hash.result c.link.new.self.heads.now c.link.new.self.next.now
          lt (omega (arith, x.4, c.requires.next)) (λ d. sym (get_or_read c.args.rows.now c.loop-at.at c.index-rows-at.result lt c.index-rows-at.is d))
          c.hash.ensures c.link.ensures.heads c.link.ensures.next x.0,
      search rules,
      search rules,
      search rules,
      search rules,
    )
