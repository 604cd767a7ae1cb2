-- The rules name facts, and no model tells against one.
use Rattle.std.proofs.Common.{◌≡◌, ℕ, zero, suc, ◌+◌, ◌*◌, ◌<◌, ◌≤◌, true, eqb, List, length, ℤ, Some, None, Option, sym, refl, ◌∙◌, subst, arith}
use Rattle.std.proofs.lemmas.Bool.{cond_both, eqb-true, and_parts, and_from, both_ways, not-true}
use Rattle.theory.specs.declared.Conclusion.TheVariants.{Fact, Contradiction}
use Rattle.theory.specs.declared.Rule.{Rule}
use Rattle.equality.specs.declared.Term.{Term}
use Rattle.theory.specs.Theory.{Names, conclusion, premised, stands}
use Rattle.equality.specs.Equality.{Table, Place, Place.Same, Place.Turned, Place.Chained, Place.Applied, Place.Clashing, Place.Nowhere, place, rule_at, congruence, alike, term_at, value, agree, used, is_model, makes_true}
use Rattle.equality.proofs.Places.{Within, place_within, pair_below}
use Rattle.equality.proofs.Truths.{same_true, true_same, truth_equal, truth_differ, Respectful, model_respects}

-- the rule, if there is one, is as said
abbrev Each : (Rule → Type 0) → Option Rule → Type 0
Each P None = Unit
Each P (Some r) = P r

from_each : (P : Rule → Type 0) (o : Option Rule) (r : Rule) → Each P o → o ≡ Some r → P r
from_each P o r h e = subst (Each P) e h

-- the used arguments of two alike terms of the table are terms
pub arity_alike : (x y : Term) → alike x y ≡ true → x.arity ≡ y.arity
arity_alike x y h = eqb-true x.arity y.arity (and_parts (eqb x.symbol y.symbol) (eqb x.arity y.arity) h).1

pub record Arguments (m a : ℕ) (x y : Term) : Type 0 where
  pub left_first : 1 ≤ a → x.left < m
  pub left_second : 1 ≤ a → y.left < m
  pub right_first : 2 ≤ a → x.right < m
  pub right_second : 2 ≤ a → y.right < m

pub arguments : (ts : List Term) → Table ts → (s t : ℕ) → s < length ts → t < length ts → alike (term_at ts s) (term_at ts t) ≡ true → Arguments (length ts) (term_at ts s).arity (term_at ts s) (term_at ts t)
arguments ts tab s t hs ht h =
    let e = arity_alike (term_at ts s) (term_at ts t) h in
    record {
      left_first = λ k. omega (arith, tab.left_earlier s hs k);
      left_second = λ k. omega (arith, tab.left_earlier t ht (omega arith));
      right_first = λ k. omega (arith, tab.right_earlier s hs k);
      right_second = λ k. omega (arith, tab.right_earlier t ht (omega arith));
    }

-- names

fact_below : (n e : ℕ) → e < n → (f : ℕ) → Fact e ≡ Fact f → f < n
fact_below n e h f q = let p : e ≡ f = cc in omega arith

contradiction_below : (n f : ℕ) → Contradiction ≡ Fact f → f < n
contradiction_below n f q = let z : ◌≡◌ {A = ℕ} 0 1 = cc in absurd (omega arith)

equal_below : (m i j : ℕ) → i < m → j < m → i * m + j < 2 * (m * m)
equal_below m i j hi hj = omega (arith, pair_below m i j hi hj)

congruence_names : (a m s t : ℕ) (x y : Term) → Arguments m a x y → s < m → t < m → Each (Names (2 * (m * m))) (congruence a m s t x y)
congruence_names zero m s t x y g hs ht = tt
congruence_names (suc zero) m s t x y g hs ht = (
  equal_below m x.left y.left (g.left_first (omega arith)) (g.left_second (omega arith)),
  fact_below (2 * (m * m)) (s * m + t) (equal_below m s t hs ht),
)
congruence_names (suc (suc n)) m s t x y g hs ht = (
  equal_below m x.left y.left (g.left_first (omega arith)) (g.left_second (omega arith)),
  equal_below m x.right y.right (g.right_first (omega arith)) (g.right_second (omega arith)),
  fact_below (2 * (m * m)) (s * m + t) (equal_below m s t hs ht),
)

names_at : (ts : List Term) → Table ts → (x : Place) → Within (length ts) x → Each (Names (2 * (length ts * length ts))) (rule_at ts x)
names_at ts tab (Same i) h = fact_below (2 * (length ts * length ts)) (i * length ts + i) (equal_below (length ts) i i h h)
names_at ts tab (Turned i j) h =
    (equal_below (length ts) i j h.0 h.1, fact_below (2 * (length ts * length ts)) (j * length ts + i) (equal_below (length ts) j i h.1 h.0))
names_at ts tab (Chained i j k) h = (
  equal_below (length ts) i j h.0 h.1,
  equal_below (length ts) j k h.1 h.2,
  fact_below (2 * (length ts * length ts)) (i * length ts + k) (equal_below (length ts) i k h.0 h.2),
)
names_at ts tab (Applied s t) h =
    cond_both (alike (term_at ts s) (term_at ts t)) (congruence (term_at ts s).arity (length ts) s t (term_at ts s) (term_at ts t)) None (Each (Names (2 * (length ts * length ts))))
    (λ e. congruence_names (term_at ts s).arity (length ts) s t (term_at ts s) (term_at ts t) (arguments ts tab s t h.0 h.1 e) h.0 h.1) (λ e. tt)
names_at ts tab (Clashing i j) h =
    (equal_below (length ts) i j h.0 h.1, omega (arith, pair_below (length ts) i j h.0 h.1), contradiction_below (2 * (length ts * length ts)))
names_at ts tab Nowhere h = tt

pub names_facts : (ts : List Term) → Table ts → (p : ℕ) (r : Rule) → rule_at ts (place (length ts) p) ≡ Some r → Names (2 * (length ts * length ts)) r
names_facts ts tab p r e =
    from_each (Names (2 * (length ts * length ts))) (rule_at ts (place (length ts) p)) r (names_at ts tab (place (length ts) p) (place_within (length ts) p)) e

-- soundness

abbrev Upheld : ℕ → List ℤ → Rule → Type 0
Upheld m v r = premised (makes_true m v) r ≡ true → stands (makes_true m v) (conclusion r) ≡ true

module _ (m : ℕ) (v : List ℤ) where
  agree_from : (i j : ℕ) → i < m → j < m → makes_true m v (i * m + j) ≡ true → agree v i j ≡ true
  agree_from i j hi hj h = sym (truth_equal m v i j hi hj) ∙ h

  agree_to : (i j : ℕ) → i < m → j < m → agree v i j ≡ true → makes_true m v (i * m + j) ≡ true
  agree_to i j hi hj h = truth_equal m v i j hi hj ∙ h

  congruence_upheld : (a s t : ℕ) (x y : Term) → Arguments m a x y → s < m → t < m → (used a (agree v x.left y.left) (agree v x.right y.right) ≡ true → agree v s t ≡ true) → Each (Upheld m v) (congruence a m s t x y)
  congruence_upheld zero s t x y g hs ht k = tt
  congruence_upheld (suc zero) s t x y g hs ht k = λ h. agree_to s t hs ht (k (agree_from x.left y.left (g.left_first (omega arith)) (g.left_second (omega arith)) h))
  congruence_upheld (suc (suc n)) s t x y g hs ht k = λ h.
      let b = and_parts (makes_true m v (x.left * m + y.left)) (makes_true m v (x.right * m + y.right)) h in
      agree_to s t hs ht (k (and_from (agree v x.left y.left) (agree v x.right y.right)
      (agree_from x.left y.left (g.left_first (omega arith)) (g.left_second (omega arith)) b.0)
      (agree_from x.right y.right (g.right_first (omega arith)) (g.right_second (omega arith)) b.1)))

  agree_value : (i j : ℕ) → agree v i j ≡ true → value v i ≡ value v j
  agree_value i j h = same_true (value v i) (value v j) h

  value_agree : (i j : ℕ) → value v i ≡ value v j → agree v i j ≡ true
  value_agree i j e = true_same (value v i) (value v j) e

upheld_at : (ts : List Term) → Table ts → (v : List ℤ) → Respectful ts v → (x : Place) → Within (length ts) x → Each (Upheld (length ts) v) (rule_at ts x)
upheld_at ts tab v res (Same i) h = λ p. agree_to (length ts) v i i h h (value_agree (length ts) v i i refl)
upheld_at ts tab v res (Turned i j) h = λ p.
    agree_to (length ts) v j i h.1 h.0 (value_agree (length ts) v j i (sym (agree_value (length ts) v i j (agree_from (length ts) v i j h.0 h.1 p))))
upheld_at ts tab v res (Chained i j k) h = λ p.
    let b = and_parts (makes_true (length ts) v (i * length ts + j)) (makes_true (length ts) v (j * length ts + k)) p in
    agree_to (length ts) v i k h.0 h.2 (value_agree (length ts) v i k
    (agree_value (length ts) v i j (agree_from (length ts) v i j h.0 h.1 b.0) ∙ agree_value (length ts) v j k (agree_from (length ts) v j k h.1 h.2 b.1)))
upheld_at ts tab v res (Applied s t) h =
    cond_both (alike (term_at ts s) (term_at ts t)) (congruence (term_at ts s).arity (length ts) s t (term_at ts s) (term_at ts t)) None (Each (Upheld (length ts) v))
    (λ e. congruence_upheld (length ts) v (term_at ts s).arity s t (term_at ts s) (term_at ts t) (arguments ts tab s t h.0 h.1 e) h.0 h.1 (res s t h.0 h.1 e)) (λ e. tt)
upheld_at ts tab v res (Clashing i j) h = λ p.
    let b = and_parts (makes_true (length ts) v (i * length ts + j)) (makes_true (length ts) v (length ts * length ts + (i * length ts + j))) p in
    absurd (both_ways (agree v i j) (not-true (agree v i j) (sym (truth_differ (length ts) v i j h.0 h.1) ∙ b.1)) (agree_from (length ts) v i j h.0 h.1 b.0))
upheld_at ts tab v res Nowhere h = tt

pub models_uphold : (ts : List Term) → Table ts → (v : List ℤ) (p : ℕ) (r : Rule) → is_model ts v ≡ true → rule_at ts (place (length ts) p) ≡ Some r → premised (makes_true (length ts) v) r ≡ true → stands (makes_true (length ts) v) (conclusion r) ≡ true
models_uphold ts tab v p r h e =
    from_each (Upheld (length ts) v) (rule_at ts (place (length ts) p)) r (upheld_at ts tab v (model_respects ts v h) (place (length ts) p) (place_within (length ts) p)) e
