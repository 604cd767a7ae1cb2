-- The sum that the code makes of two facts is the sum of the facts.
use Rattle.std.proofs.Common.{◌≡◌, ℕ, ◌+◌, ◌-◌, ◌/◌, ◌%◌, max, ap, ◌∙◌, ap₂}
use Rattle.potentials.specs.Differences.{Difference, sum, first, second}
use Rattle.potentials.proofs.Numbers.{same_difference}
use Rattle.differences.specs.declared.parts.Parts.{Parts}
use Rattle.differences.specs.Facts.{strictness, fact_of}

pub sum_same : (v p : ℕ) (a b : Difference) (s w : ℕ) → a ≡ first v p → b ≡ second v p → s ≡ max a.strict b.strict → w ≡ p / 31 % 31 + p % 31 - 15
    → ◌≡◌ {A = Difference} (record { strict = s; left = a.left; right = b.right; constant = w }) (sum (first v p) (second v p))
unfolding first second
sum_same v p a b s w f g h k =
    same_difference (sum (first v p) (second v p)) _ _ _ _ (h ∙ ap₂ (λ d e. max d.strict e.strict) f g) (ap (λ d. d.left) f) (ap (λ d. d.right) g) k

-- the same of two facts that the code holds in their parts
pub parts_same : (v p : ℕ) (a b : Parts) (s w : ℕ) → fact_of a ≡ first v p → fact_of b ≡ second v p → s ≡ max (strictness a.bound) (strictness b.bound) → w ≡ p / 31 % 31 + p % 31 - 15
    → ◌≡◌ {A = Difference} (record { strict = s; left = a.left; right = b.right; constant = w }) (sum (first v p) (second v p))
parts_same v p a b s w = sum_same v p (fact_of a) (fact_of b) s w
