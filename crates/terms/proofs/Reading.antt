-- The rule at a place, read off its number group by group.
use Rattle.std.proofs.Common.{◌≡◌, ℕ, ◌+◌, ◌*◌, ◌/◌, ◌%◌, ◌<◌, ◌≤◌, List, length, Some, None, Option, ap, sym, ◌∙◌}
use Rattle.theory.specs.declared.Conclusion.TheVariants.{Fact, Contradiction}
use Rattle.theory.specs.declared.Rule.TheVariants.{Always, From, Both}
use Rattle.theory.specs.declared.Rule.{Rule}
use Rattle.equality.specs.declared.Term.{Term}
use Rattle.equality.specs.Equality.{Place, Place.Same, Place.Turned, Place.Chained, Place.Applied, Place.Clashing, Place.Nowhere, place, rule_at, equal, differ}
use Rattle.equality.proofs.Places.{same_at, turned_at, chained_at, applied_at, clashing_at, past_same, past_turns, past_chains, past_applied, nowhere}

-- p is asked for, q is counted from the start of its group
module _ (ts : List Term) (p m : ℕ) (size : m ≡ length ts) where
  abbrev asked : Option Rule
  asked = rule_at ts (place (length ts) p)

  read : (x : Place) → place m p ≡ x → rule_at ts x ≡ asked
  read x e = ap (rule_at ts) (sym e) ∙ ap (λ n. rule_at ts (place n p)) size

  pub same_read : (r : Rule) → r ≡ Always (Fact (equal m p p)) → p < m → Some r ≡ asked
  same_read r e h = (cc size) ∙ read (Same p) (same_at m p h)

  module _ (r : Rule) (q i j : ℕ) (first : i ≡ q / m) (second : j ≡ q % m) where
    pub turned_read : r ≡ From (equal m i j) (Fact (equal m j i)) → p ≡ m + q → q < m * m → Some r ≡ asked
    turned_read e f h = (cc size) ∙ read (Turned (q / m) (q % m)) (ap (place m) f ∙ past_same m q ∙ turned_at m q h)

    pub clashing_read : r ≡ Both (equal m i j) (differ m i j) Contradiction → p ≡ m + (m * m + (m * m * m + (m * m + q))) → q < m * m → Some r ≡ asked
    clashing_read e f h =
        (cc size) ∙ read (Clashing (q / m) (q % m))
        (ap (place m) f ∙ past_same m (m * m + (m * m * m + (m * m + q))) ∙ past_turns m (m * m * m + (m * m + q)) ∙ past_chains m (m * m + q)
        ∙ past_applied m q ∙ clashing_at m q h)

  pub chained_read : (r : Rule) (q i j k : ℕ) → i ≡ q / m / m → j ≡ q / m % m → k ≡ q % m
      → r ≡ Both (equal m i j) (equal m j k) (Fact (equal m i k)) → p ≡ m + (m * m + q) → q < m * m * m → Some r ≡ asked
  chained_read r q i j k first second third e f h =
      (cc size) ∙ read (Chained (q / m / m) (q / m % m) (q % m)) (ap (place m) f ∙ past_same m (m * m + q) ∙ past_turns m q ∙ chained_at m q h)

  pub applied_read : (q i j : ℕ) → i ≡ q / m → j ≡ q % m → p ≡ m + (m * m + (m * m * m + q)) → q < m * m → rule_at ts (Applied i j) ≡ asked
  applied_read q i j first second f h =
      read (Applied i j)
      (ap (place m) f ∙ past_same m (m * m + (m * m * m + q)) ∙ past_turns m (m * m * m + q) ∙ past_chains m q ∙ applied_at m q h ∙ (cc))

  pub none_read : m + m * m + m * m * m + m * m + m * m ≤ p → None ≡ asked
  none_read h = read Nowhere (nowhere m p h)
