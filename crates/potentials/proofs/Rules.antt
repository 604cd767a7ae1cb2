-- What stands at a place, by its cases.
use Rattle.std.proofs.Common.{◌≡◌, ℕ, ◌+◌, ◌-◌, ◌<◌, ◌≤◌, true, false, ◌&&◌, ltb, Some, None, Option, ap, ◌∙◌, ap₂, arith}
use Rattle.std.proofs.lemmas.Bool.{cond-true, cond-false, cond_both, lt-ltb, le-ltb, ltb-true, ltb-false, and_from, and_parts, and_left, and_right}
use Rattle.theory.specs.declared.Conclusion.TheVariants.{Fact, Contradiction}
use Rattle.theory.specs.declared.Rule.{Rule}
use Rattle.theory.specs.declared.Rule.TheVariants.{From, Both}
use Rattle.potentials.specs.Differences.{Difference, Within, fact_count, number, difference, reversed, sum, sum_count, first, second, sum_rule, impossible, loop_rule, rule_at, opposite_of}
use Rattle.potentials.proofs.Numbers.{number_below, difference_number, first_within, second_within, sum_within, meeting, place, place_below, first_at, second_at}

pub rule_of_sum : (v p : ℕ) → p < sum_count v → rule_at v p ≡ sum_rule v (first v p) (second v p)
unfolding rule_at
rule_of_sum v p h = cond-true (ltb p (sum_count v)) _ _ (lt-ltb p (sum_count v) h)

pub rule_of_loop : (v p : ℕ) → sum_count v ≤ p → rule_at v p ≡ loop_rule v (p - sum_count v)
unfolding rule_at
rule_of_loop v p h = cond-false (ltb p (sum_count v)) _ _ (le-ltb p (sum_count v) h)

pub sum_is : (v : ℕ) (a b : Difference) → a.constant + b.constant ≤ 45 → sum_rule v a b ≡ Some (Both (number v a) (number v b) (Fact (number v (sum a b))))
unfolding sum_rule
sum_is v a b h = cond-false (ltb 45 (a.constant + b.constant)) _ _ (le-ltb 45 (a.constant + b.constant) h)

pub no_sum : (v : ℕ) (a b : Difference) → 45 < a.constant + b.constant → sum_rule v a b ≡ None
unfolding sum_rule
no_sum v a b h = cond-true (ltb 45 (a.constant + b.constant)) _ _ (lt-ltb 45 (a.constant + b.constant) h)

pub loop_is : (v f : ℕ) → f < fact_count v → impossible (difference v f) ≡ true → loop_rule v f ≡ Some (From f Contradiction)
unfolding loop_rule
loop_is v f h i = cond-true (ltb f (fact_count v) && impossible (difference v f)) _ _ (and_from _ _ (lt-ltb f (fact_count v) h) i)

pub no_loop : (v f : ℕ) → impossible (difference v f) ≡ false → loop_rule v f ≡ None
unfolding loop_rule
no_loop v f i = cond-false (ltb f (fact_count v) && impossible (difference v f)) _ _ (and_right _ _ i)

pub past_loops : (v f : ℕ) → fact_count v ≤ f → loop_rule v f ≡ None
unfolding loop_rule
past_loops v f h = cond-false (ltb f (fact_count v) && impossible (difference v f)) _ _ (and_left _ _ (le-ltb f (fact_count v) h))

pub past_places : (v p : ℕ) → sum_count v + fact_count v ≤ p → rule_at v p ≡ None
past_places v p h = rule_of_loop v p (omega arith) ∙ past_loops v (p - sum_count v) (omega arith)

pub opposite_is : (v f : ℕ) → f < fact_count v → opposite_of v f ≡ Some (number v (reversed (difference v f)))
unfolding opposite_of
opposite_is v f h = cond-true (ltb f (fact_count v)) _ _ (lt-ltb f (fact_count v) h)

pub past_opposites : (v f : ℕ) → fact_count v ≤ f → opposite_of v f ≡ None
unfolding opposite_of
past_opposites v f h = cond-false (ltb f (fact_count v)) _ _ (le-ltb f (fact_count v) h)

-- every two facts that meet have a place for their sum, and every impossible fact has one for the contradiction
pub sum_has_place : (v : ℕ) (a b : Difference) (m : Within v a) (n : Within v b) (h : a.right ≡ b.left) → a.constant + b.constant ≤ 45
    → rule_at v (place v a b m n h) ≡ Some (Both (number v a) (number v b) (Fact (number v (sum a b))))
sum_has_place v a b m n h k =
    rule_of_sum v (place v a b m n h) (place_below v a b m n h) ∙ ap₂ (sum_rule v) (first_at v a b m n h) (second_at v a b m n h) ∙ sum_is v a b k

pub loop_has_place : (v : ℕ) (d : Difference) → Within v d → impossible d ≡ true → rule_at v (sum_count v + number v d) ≡ Some (From (number v d) Contradiction)
loop_has_place v d w i =
    rule_of_loop v (sum_count v + number v d) (omega arith) ∙ ap (loop_rule v) (omega arith) ∙ loop_is v (number v d) (number_below v d w) (ap impossible (difference_number v d w) ∙ i)

-- what holds of no rule, of the sum of any two facts that meet and of the contradiction from any impossible fact holds at every place
module _ (v : ℕ) (P : Option Rule → Type 0) (empty : P None)
    (sums : (a b : Difference) → Within v a → Within v b → Within v (sum a b) → a.right ≡ b.left → P (Some (Both (number v a) (number v b) (Fact (number v (sum a b))))))
    (loops : (f : ℕ) → f < fact_count v → impossible (difference v f) ≡ true → P (Some (From f Contradiction))) where
  at_sum : (a b : Difference) → Within v a → Within v b → a.right ≡ b.left → P (sum_rule v a b)
  unfolding sum_rule
  at_sum a b m n h =
      cond_both (ltb 45 (a.constant + b.constant)) None (Some (Both (number v a) (number v b) (Fact (number v (sum a b))))) P (λ e. empty)
      (λ e. sums a b m n (sum_within v a b m n (ltb-false 45 (a.constant + b.constant) e)) h)

  at_loop : (f : ℕ) → P (loop_rule v f)
  unfolding loop_rule
  at_loop f =
      cond_both (ltb f (fact_count v) && impossible (difference v f)) (Some (From f Contradiction)) None P
      (λ e. let both = and_parts _ _ e in loops f (ltb-true f (fact_count v) both.0) both.1) (λ e. empty)

  pub at_every_place : (p : ℕ) → P (rule_at v p)
  unfolding rule_at
  at_every_place p =
      cond_both (ltb p (sum_count v)) (sum_rule v (first v p) (second v p)) (loop_rule v (p - sum_count v)) P
      (λ e. let h = ltb-true p (sum_count v) e in at_sum (first v p) (second v p) (first_within v p h) (second_within v p h) (meeting v p)) (λ e. at_loop (p - sum_count v))
