use Rattle.std.proofs.Common.{◌≡◌, length, replicate, take}
use Rattle.register.proofs.blank_all.Given as goal

abbrev pub invariant-loop-row : goal.invariant-loop-row
invariant-loop-row g l = (length l.rows ≡ length l.initial.rows) × (take l.row-index l.rows ≡ replicate l.row-index l.blank)
