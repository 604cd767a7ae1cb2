-- Models uphold every rule of the theory of differences, and make exactly one of a fact and its opposite true: the first law and the third.
use Rattle.std.proofs.Common.{◌≡◌, ℕ, ◌<◌, true, not, List, ℤ, Some, None, Option, sym, ap, ◌∙◌, subst, ⊎_elim, arith}
use Rattle.std.proofs.lemmas.Bool.{cases_lt, and_parts}
use Rattle.theory.specs.declared.Rule.{Rule}
use Rattle.theory.specs.Theory.{Facts, premised, conclusion, stands}
use Rattle.potentials.specs.Differences.{fact_count, number, difference, reversed, sum, rule_at, opposite_of, is_model, makes_true}
use Rattle.potentials.proofs.Numbers.{difference_within, reversed_within}
use Rattle.potentials.proofs.Rules.{at_every_place, opposite_is, past_opposites}
use Rattle.potentials.proofs.Truths.{decides_meets, scale, met_sum, meets_reversed, impossible_unmet, truth_is, truth_of}

-- the facts that are true uphold what stands at a place
abbrev Upholds : Facts → Option Rule → Type 0
Upholds t (Some r) = premised t r ≡ true → stands t (conclusion r) ≡ true
Upholds t None = Unit {0}

module _ (v : ℕ) (m : List ℤ) (model : is_model v m ≡ true) where
  rule_upheld : (p : ℕ) → Upholds (makes_true v m) (rule_at v p)
  rule_upheld =
      let q = scale v m model in
      at_every_place v (Upholds (makes_true v m)) tt
      (λ a b i j w h t.
      let both = and_parts _ _ t in
      let met-a = (decides_meets m a i.strict).0 (sym (truth_of v m a i) ∙ both.0) in
      let met-b = (decides_meets m b j.strict).0 (sym (truth_of v m b j) ∙ both.1) in
      truth_of v m (sum a b) w ∙ (decides_meets m (sum a b) w.strict).1 (met_sum m q.0 q.1 a b h met-a met-b))
      (λ f l i t.
      let s = (difference_within v f l).strict in
      absurd (impossible_unmet m q.0 q.1 (difference v f) q.2 s i ((decides_meets m (difference v f) s).0 (sym (truth_is v m f l) ∙ t))))

  -- first law
  pub sound : (p : ℕ) (r : Rule) → rule_at v p ≡ Some r → premised (makes_true v m) r ≡ true → stands (makes_true v m) (conclusion r) ≡ true
  sound p r e = subst (Upholds (makes_true v m)) e (rule_upheld p)

  reversed_truth : (f : ℕ) → f < fact_count v → makes_true v m (number v (reversed (difference v f))) ≡ not (makes_true v m f)
  reversed_truth f l =
      let q = scale v m model in
      let w = difference_within v f l in
      truth_of v m (reversed (difference v f)) (reversed_within v (difference v f) w) ∙ meets_reversed m q.0 q.1 (difference v f) w.strict w.constant
      ∙ ap not (sym (truth_is v m f l))

  -- third law
  pub opposed : (f g : ℕ) → opposite_of v f ≡ Some g → makes_true v m g ≡ not (makes_true v m f)
  opposed f g e =
      ⊎_elim
      (λ l. let same : number v (reversed (difference v f)) ≡ g = cc (opposite_is v f l) in ap (makes_true v m) (sym same) ∙ reversed_truth f l)
      (λ h. let z : ◌≡◌ {A = ℕ} 0 1 = cc (past_opposites v f h) in absurd (omega arith)) (cases_lt f (fact_count v))
