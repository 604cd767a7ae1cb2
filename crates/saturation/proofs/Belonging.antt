-- The rules derive the contradiction from exactly the impossible choices.
use Rattle.saturation.specs.Statements.{BelongingIsImpossible}
use Rattle.std.proofs.Common.{◌≡◌, ℕ, zero, suc, ◌<◌, true, false, not, ◌&&◌, eqb, List, length, get_or, ℤ, Some, Option, sym, refl, ap, ◌∙◌, subst, ⊎_elim}
use Rattle.std.proofs.lemmas.Bool.{false≢true, both_ways, eqb-true, eq-eqb, and_parts, and_from, or_cases, or_left, or_right, cases_Bool, not-true}
use Rattle.theory.specs.declared.Conclusion.{Conclusion}
use Rattle.theory.specs.declared.Conclusion.TheVariants.{Fact, Contradiction}
use Rattle.theory.specs.Theory.{Meaning, Lawful, Closed, Clear, conclusion, premised, stands}
use Rattle.theory.specs.Rounds.{Question, Proper, Gathered, bit, some_below, facts_of, opposes, start, after, Derives, Impossible}
use Rattle.saturation.proofs.Closing.{some_from, some_since, premised_more, round_from, round_since, from_start, Ending, ending}

opposes_some : (o : Option ℕ) (g f : ℕ) → o ≡ Some g → opposes o f ≡ true → g ≡ f
opposes_some o g f e h = eqb-true g f (subst (λ z. opposes z f ≡ true) e h)

module _ (m : Meaning) (q : Question) (l : Lawful m) (proper : Proper m q) (c : ℕ) where
  -- a model that makes the chosen predicates true and the goals false makes everything true that the rounds add
  module _ (v : List ℤ) (model : m.models v ≡ true)
      (chosen : (k : ℕ) → k < length q.predicates → bit c k ≡ true → m.truth v (get_or q.predicates k 0) ≡ true)
      (denied : (j : ℕ) → j < length q.goals → m.truth v (get_or q.goals j 0) ≡ false) where
    true_start : (x : Conclusion) → start m q c x ≡ true → stands (m.truth v) x ≡ true
    true_start (Fact f) h =
        ⊎_elim
        (λ e.
        let p = some_from (length q.predicates) (λ k. bit c k && eqb (get_or q.predicates k 0) f) e in
        let a = and_parts (bit c p.0) (eqb (get_or q.predicates p.0 0) f) p.2 in
        subst (λ z. m.truth v z ≡ true) (eqb-true (get_or q.predicates p.0 0) f a.1) (chosen p.0 p.1 a.0))
        (λ e.
        let p = some_from (length q.goals) (λ j. opposes (m.opposite (get_or q.goals j 0)) f) e in
        let g = get_or q.goals p.0 0 in
        let o = l.bounds.has_opposite g (proper.goals_are_facts p.0 p.1) in
        subst (λ z. m.truth v z ≡ true) (opposes_some (m.opposite g) o.0 f o.1 p.2) (l.opposed v g o.0 model o.1 ∙ ap not (denied p.0 p.1)))
        (or_cases (some_below (length q.predicates) (λ k. bit c k && eqb (get_or q.predicates k 0) f)) (some_below (length q.goals) (λ j. opposes (m.opposite (get_or q.goals j 0)) f)) h)
    true_start Contradiction h = h

    true_after : (k : ℕ) (x : Conclusion) → after m q c k x ≡ true → stands (m.truth v) x ≡ true
    unfolding after
    true_after zero x h = true_start x h
    true_after (suc k) x h =
        ⊎_elim (true_after k x)
        (λ p. subst (λ z. stands (m.truth v) z ≡ true) p.4 (l.sound v p.0 p.1 model p.2 (premised_more (facts_of (after m q c k)) (m.truth v) (λ f. true_after k (Fact f)) p.1 p.3)))
        (round_from m (after m q c k) x h)

  sound_part : Derives m q c → Impossible m q c
  sound_part d v model chosen denied = false≢true (true_after v model chosen denied d.0 Contradiction d.1)

  -- where no round adds the contradiction, what is there at the end has a model
  module _ (e : Ending m q c) (off : after m q c e.round_number Contradiction ≡ false) where
    end : Gathered
    end = after m q c e.round_number

    closed : Closed m (facts_of end)
    unfolding end
    closed i r f at is h = subst (λ z. end z ≡ true) is (e.still (conclusion r) (round_since m l end i r at h))

    clear : Clear m (facts_of end)
    unfolding end
    clear i r at is =
        ⊎_elim (λ h. absurd (both_ways (end Contradiction) off (subst (λ z. end z ≡ true) is (e.still (conclusion r) (round_since m l end i r at h))))) (λ h. h)
        (cases_Bool (premised (facts_of end) r))

    not_impossible : Impossible m q c → ⊥
    unfolding end
    not_impossible imp =
        let w = l.complete (facts_of end) closed clear in
        imp w.0 w.1
        (λ k lt on. w.2 (get_or q.predicates k 0) (proper.predicates_are_facts k lt)
        (from_start m q c e.round_number (Fact (get_or q.predicates k 0))
        (or_left _ _ (some_since (length q.predicates) (λ j. bit c j && eqb (get_or q.predicates j 0) (get_or q.predicates k 0)) k lt (and_from (bit c k) _ on (eq-eqb _ _ refl))))))
        (λ j lt.
        let g = get_or q.goals j 0 in
        let o = l.bounds.has_opposite g (proper.goals_are_facts j lt) in
        let starts : start m q c (Fact o.0) ≡ true =
        or_right (some_below (length q.predicates) (λ k. bit c k && eqb (get_or q.predicates k 0) o.0)) _
        (some_since (length q.goals) (λ i. opposes (m.opposite (get_or q.goals i 0)) o.0) j lt (subst (λ z. opposes z o.0 ≡ true) (sym o.1) (eq-eqb o.0 o.0 refl))) in
        not-true (m.truth w.0 g) (sym (l.opposed w.0 g o.0 w.1 o.1) ∙ w.2 o.0 o.2 (from_start m q c e.round_number (Fact o.0) starts)))

  complete_part : Impossible m q c → Derives m q c
  complete_part imp =
      let e = ending m l q c in
      ⊎_elim (λ on. (e.round_number, on)) (λ off. absurd (not_impossible e off imp)) (cases_Bool (after m q c e.round_number Contradiction))

pub belonging_is_impossible : BelongingIsImpossible
belonging_is_impossible m q l proper c = (sound_part m q l proper c, complete_part m q l proper c)
