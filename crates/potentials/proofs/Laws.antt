-- The theory of differences keeps all laws of a theory.
use Rattle.std.proofs.Common.{ℕ, ◌≤◌}
use Rattle.theory.specs.Theory.{Lawful}
use Rattle.potentials.specs.Differences.{differences}
use Rattle.potentials.proofs.Bounds.{differences_bounded}
use Rattle.potentials.proofs.Soundness.{sound, opposed}
use Rattle.potentials.proofs.Completeness.{complete}

pub differences_lawful : (v : ℕ) → v ≤ 8 → Lawful (differences v)
differences_lawful v h = record {
  bounds = differences_bounded v h;
  sound = λ m p r model. sound v m model p r;
  complete = complete v;
  opposed = λ m f g model. opposed v m model f g;
}
