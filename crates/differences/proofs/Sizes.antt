-- The numbers of the theory fit the types of the code.
use Rattle.std.proofs.Common.{ℕ, ◌+◌, ◌*◌, ◌<◌, ◌≤◌, arith}
use Rattle.potentials.specs.Differences.{Difference, Within, number}
use Rattle.potentials.proofs.Numbers.{number_below}
use Rattle.potentials.proofs.Bounds.{few}

pub number_small : (v : ℕ) (d : Difference) → v ≤ 8 → Within v d → ((d.strict * v + d.left) * v + d.right) * 31 + d.constant < 3968
unfolding number
number_small v d h w = omega (arith, (few v h).0, number_below v d w)
