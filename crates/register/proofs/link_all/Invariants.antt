use Rattle.std.proofs.Common.{◌≡◌, length}
use Rattle.register.specs.Chains.{Indexed}
use Rattle.register.proofs.link_all.Given as goal

abbrev pub invariant-loop-at : goal.invariant-loop-at
invariant-loop-at g l =
    Indexed g.R.Row.hash l.rows l.at l.index.heads.now l.index.next.now
    × (l.index.heads.ghost_name ≡ l.initial.index.heads.ghost_name) × (l.index.next.ghost_name ≡ l.initial.index.next.ghost_name)
    × (length l.index.heads.now ≡ length l.initial.index.heads.now) × (length l.index.next.now ≡ length l.initial.index.next.now)
