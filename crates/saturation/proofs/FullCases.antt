-- A full case belongs to an abstraction exactly when it implies the disjunction of the goals.
use Rattle.saturation.specs.Statements.{FullCasesImply}
use Rattle.std.proofs.Common.{◌≡◌, ℕ, zero, suc, ◌+◌, ◌*◌, ◌/◌, ◌%◌, ◌<◌, Bool, true, false, not, ◌⊎◌, List, [], ◌∷◌, length, get_or, ℤ, sym, refl, ap, ◌∙◌, subst, inl, inr, ⊎_elim, arith}
use mathlib.Core.Logic.Iff
use Rattle.std.proofs.lemmas.Bool.{both_ways, cases_Bool, not-true, not_from_false, cases_eq}
use Rattle.theory.specs.Theory.{Meaning, Lawful}
use Rattle.theory.specs.Rounds.{Proper, bit, Impossible}
use Rattle.theory.specs.Abstraction.{ask, or_0, with_opposites, FullCase, Implies}
use Rattle.saturation.proofs.Belonging.{belonging_is_impossible}

at_even : (m : Meaning) (ps : List ℕ) (k : ℕ) → k < length ps → get_or (with_opposites m ps) (2 * k) 0 ≡ get_or ps k 0
at_even m [] k lt = absurd (omega arith)
at_even m (p ∷ ps) zero lt = refl
at_even m (p ∷ ps) (suc k) lt =
    let e : 2 * suc k ≡ suc (suc (2 * k)) = omega arith in
    ap (λ i. get_or (with_opposites m (p ∷ ps)) i 0) e ∙ at_even m ps k (omega (arith, lt))

at_odd : (m : Meaning) (ps : List ℕ) (k : ℕ) → k < length ps → get_or (with_opposites m ps) (2 * k + 1) 0 ≡ or_0 (m.opposite (get_or ps k 0))
at_odd m [] k lt = absurd (omega arith)
at_odd m (p ∷ ps) zero lt = refl
at_odd m (p ∷ ps) (suc k) lt =
    let e : 2 * suc k + 1 ≡ suc (suc (2 * k + 1)) = omega arith in
    ap (λ i. get_or (with_opposites m (p ∷ ps)) i 0) e ∙ at_odd m ps k (omega (arith, lt))

twice_long : (m : Meaning) (ps : List ℕ) → length (with_opposites m ps) ≡ 2 * length ps
twice_long m [] = refl
twice_long m (p ∷ ps) = omega (arith, twice_long m ps)

-- some number below n passes a test, or none does
found_or_not : (n : ℕ) (p : ℕ → Bool) → ((j : ℕ) × (j < n) × (p j ≡ true)) ⊎ ((j : ℕ) → j < n → p j ≡ false)
found_or_not zero p = inr (λ j lt. absurd (omega (arith, lt)))
found_or_not (suc n) p = next (found_or_not n p) (cases_Bool (p n))
  where
    next : ((j : ℕ) × (j < n) × (p j ≡ true)) ⊎ ((j : ℕ) → j < n → p j ≡ false) → (p n ≡ true) ⊎ (p n ≡ false) → ((j : ℕ) × (j < suc n) × (p j ≡ true)) ⊎ ((j : ℕ) → j < suc n → p j ≡ false)
    next (inl f) e = inl (f.0, omega (arith, f.1), f.2)
    next (inr old) (inl on) = inl (n, omega arith, on)
    next (inr old) (inr off) = inr (λ j lt. ⊎_elim (λ e. subst (λ i. p i ≡ false) (sym e) off) (λ ne. old j (omega (arith, lt, ne))) (cases_eq j n))

-- a position is one of a pair
paired : (i n : ℕ) → i < 2 * n → (k : ℕ) × (k < n) × ((i ≡ 2 * k) ⊎ (i ≡ 2 * k + 1))
paired i n lt = (i / 2, omega arith, ⊎_elim (λ e. inl (omega (arith, e))) (λ ne. inr (omega (arith, ne))) (cases_eq (i % 2) 0))

module _ (m : Meaning) (l : Lawful m) (ps gs : List ℕ) (proper : Proper m (ask ps gs)) (c : ℕ) (full : FullCase (length ps) c) where
  -- the opposite of predicate k is true where the predicate is false
  opposite_truth : (v : List ℤ) → m.models v ≡ true → (k : ℕ) → k < length ps → m.truth v (get_or (with_opposites m ps) (2 * k + 1) 0) ≡ not (m.truth v (get_or ps k 0))
  opposite_truth v model k lt =
      let p = get_or ps k 0 in
      let o = l.bounds.has_opposite p (proper.predicates_are_facts k lt) in
      ap (m.truth v) (at_odd m ps k lt ∙ ap or_0 o.1) ∙ l.opposed v p o.0 model o.1

  to : Impossible m (ask (with_opposites m ps) gs) c → Implies m ps gs c
  to imp v model as_case =
      ⊎_elim (λ f. f)
      (λ off. absurd (imp v model
      (λ i lt on.
      let pair = paired i (length ps) (omega (arith, lt, twice_long m ps)) in
      let k = pair.0 in
      ⊎_elim
      (λ e. ap (λ j. m.truth v (get_or (with_opposites m ps) j 0)) e ∙ ap (m.truth v) (at_even m ps k pair.1) ∙ as_case k pair.1 ∙ subst (λ j. bit c j ≡ true) e on)
      (λ e. ap (λ j. m.truth v (get_or (with_opposites m ps) j 0)) e ∙ opposite_truth v model k pair.1 ∙ ap not (as_case k pair.1) ∙ sym (full k pair.1) ∙ subst (λ j. bit c j ≡ true) e on)
      pair.2)
      off))
      (found_or_not (length gs) (λ j. m.truth v (get_or gs j 0)))

  back : Implies m ps gs c → Impossible m (ask (with_opposites m ps) gs) c
  back implies v model chosen denied =
      let as_case : (k : ℕ) → k < length ps → m.truth v (get_or ps k 0) ≡ bit c (2 * k) = λ k lt.
      ⊎_elim
      (λ on. ap (m.truth v) (sym (at_even m ps k lt)) ∙ chosen (2 * k) (omega (arith, lt, twice_long m ps)) on ∙ sym on)
      (λ off. not-true _ (sym (opposite_truth v model k lt) ∙ chosen (2 * k + 1) (omega (arith, lt, twice_long m ps)) (full k lt ∙ not_from_false _ off)) ∙ sym off)
      (cases_Bool (bit c (2 * k))) in
      let g = implies v model as_case in
      both_ways _ (denied g.0 g.1) g.2

pub full_cases_imply : FullCasesImply
full_cases_imply m ps gs l proper proper_pairs c full = Iff.trans (belonging_is_impossible m (ask (with_opposites m ps) gs) l proper_pairs c) (to m l ps gs proper c full, back m l ps gs proper c full)
