-- The theory of differences keeps to its limits: its rules and opposites name its own facts, and nothing stands behind the last place.
use Rattle.std.proofs.Common.{◌≡◌, ℕ, ◌*◌, ◌<◌, ◌≤◌, Some, None, Option, subst, arith}
use Rattle.std.proofs.lemmas.Nat.{mul-le}
use Rattle.theory.specs.declared.Rule.{Rule}
use Rattle.theory.specs.Theory.{Names, Bounded}
use Rattle.potentials.specs.Differences.{fact_count, number, difference, reversed, sum, rule_at, differences}
use Rattle.potentials.proofs.Rules.{at_every_place, past_places, opposite_is, past_opposites}
use Rattle.potentials.proofs.Numbers.{number_below, difference_within, reversed_within}

-- what stands at a place names facts of the theory only
abbrev Named : ℕ → Option Rule → Type 0
Named n (Some r) = Names n r
Named n None = Unit {0}

rule_named : (v p : ℕ) → Named (fact_count v) (rule_at v p)
rule_named v =
    at_every_place v (Named (fact_count v)) tt
    (λ a b m n w h. (number_below v a m, number_below v b n, λ f e. let same : number v (sum a b) ≡ f = cc in subst (λ i. i < fact_count v) same (number_below v (sum a b) w)))
    (λ f l i. (l, λ g e. let z : ◌≡◌ {A = ℕ} 0 1 = cc in absurd (omega arith)))

-- with up to 8 variables there are at most 3968 facts and 1972096 places
pub few : (v : ℕ) → v ≤ 8 → (v * v ≤ 64) × (v * v * v ≤ 512)
few v h = let a : v * v ≤ 64 = mul-le v v 8 8 h h in (a, mul-le (v * v) v 64 8 a h)

pub differences_bounded : (v : ℕ) → v ≤ 8 → Bounded (differences v)
differences_bounded v h = record {
  few_facts = omega (arith, (few v h).0);
  few_places = omega (arith, (few v h).0, (few v h).1);
  names = λ p r e. subst (Named (fact_count v)) e (rule_named v p);
  no_place = past_places v;
  has_opposite = λ f l. (number v (reversed (difference v f)), opposite_is v f l, number_below v _ (reversed_within v (difference v f) (difference_within v f l)));
  no_opposite = past_opposites v;
}
