-- The theory of equality shows the three laws.
use Rattle.std.proofs.Common.{◌≡◌, ℕ, ◌+◌, ◌-◌, ◌*◌, ◌<◌, ◌≤◌, length, Some, ap, ⊎_elim, arith}
use Rattle.std.proofs.lemmas.Bool.{cases_lt}
use Rattle.std.proofs.lemmas.Nat.{mul-le}
use Rattle.equality.specs.Equality.{rule_at, opposite_at, EqualityIsLawful}
use Rattle.equality.proofs.Places.{nowhere}
use Rattle.equality.proofs.Truths.{opposite_low, opposite_high, opposite_none, opposed_truth}
use Rattle.equality.proofs.Rules.{names_facts, models_uphold}
use Rattle.equality.proofs.Classes.{has_model}

opposite_below : (m f : ℕ) → f < 2 * (m * m) → (g : ℕ) × (opposite_at m f ≡ Some g) × (g < 2 * (m * m))
opposite_below m f h =
    ⊎_elim (λ l. (m * m + f, opposite_low m f l, omega arith)) (λ g. (f - m * m, opposite_high m f g h, omega arith)) (cases_lt f (m * m))

pub equality_is_lawful : EqualityIsLawful
equality_is_lawful ts tab =
    let m : ℕ = length ts in
    let square : m * m ≤ 24 * 24 = mul-le m m 24 24 tab.few tab.few in
    let cube : m * m * m ≤ 24 * 24 * 24 = mul-le (m * m) m (24 * 24) 24 square tab.few in
    record {
      bounds = record {
        few_facts = omega (arith, square);
        few_places = omega (arith, square, cube, tab.few);
        names = names_facts ts tab;
        no_place = λ p h. ap (rule_at ts) (nowhere (length ts) p h);
        has_opposite = opposite_below (length ts);
        no_opposite = opposite_none (length ts);
      };
      sound = models_uphold ts tab;
      complete = has_model ts tab;
      opposed = λ v f g h. opposed_truth (length ts) v f g;
    }
