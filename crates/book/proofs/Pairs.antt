-- The list of predicates and their opposites, place by place.
use Rattle.std.proofs.Common.{◌≡◌, ℕ, zero, suc, ◌+◌, ◌*◌, ◌<◌, ◌≤◌, ◌⊎◌, List, [], ◌∷◌, ◌++◌, length, get_or, take, sym, refl, ap, ◌∙◌, inl, inr, ⊎_elim, arith, length-take-le, get_or-take, ext_get_or}
use Rattle.theory.specs.Theory.{Meaning, Bounded}
use Rattle.theory.specs.Rounds.{Proper}
use Rattle.theory.specs.Abstraction.{ask, or_0, with_opposites}

-- the first k pairs stand
abbrev pub Paired : Meaning → List ℕ → List ℕ → ℕ → Type 0
Paired m ps xs n = (k : ℕ) → k < n → (get_or xs (2 * k) 0 ≡ get_or ps k 0) × (get_or xs (2 * k + 1) 0 ≡ or_0 (m.opposite (get_or ps k 0)))

pub twice_long : (m : Meaning) (ps : List ℕ) → length (with_opposites m ps) ≡ 2 * length ps
twice_long m [] = refl
twice_long m (p ∷ ps) = omega (arith, twice_long m ps)

pub pairs_are : (m : Meaning) (ps : List ℕ) → Paired m ps (with_opposites m ps) (length ps)
pairs_are m [] k lt = absurd (omega arith)
pairs_are m (p ∷ ps) zero lt = (refl, refl)
pairs_are m (p ∷ ps) (suc k) lt =
    let e : 2 * suc k ≡ suc (suc (2 * k)) = omega arith in
    let f : 2 * suc k + 1 ≡ suc (suc (2 * k + 1)) = omega arith in
    let h = pairs_are m ps k (omega arith) in
    (ap (λ z. get_or (p ∷ or_0 (m.opposite p) ∷ with_opposites m ps) z 0) e ∙ h.0, ap (λ z. get_or (p ∷ or_0 (m.opposite p) ∷ with_opposites m ps) z 0) f ∙ h.1)

-- a predicate more
pub one_pair_more : (m : Meaning) (ps : List ℕ) (p : ℕ) → with_opposites m (ps ++ p ∷ []) ≡ with_opposites m ps ++ p ∷ or_0 (m.opposite p) ∷ []
one_pair_more m [] p = refl
one_pair_more m (q ∷ ps) p = ap (λ z. q ∷ or_0 (m.opposite q) ∷ z) (one_pair_more m ps p)

even_or_odd : (i : ℕ) → ((k : ℕ) × (i ≡ 2 * k)) ⊎ ((k : ℕ) × (i ≡ 2 * k + 1))
even_or_odd zero = inl (0, refl)
even_or_odd (suc i) = ⊎_elim (λ e. inr (e.0, omega (arith, e.1))) (λ e. inl (suc e.0, omega (arith, e.1))) (even_or_odd i)

-- all pairs stand: the list is that of predicates and opposites
pub all_paired : (m : Meaning) (ps xs : List ℕ) → 2 * length ps ≤ length xs → Paired m ps xs (length ps) → take (2 * length ps) xs ≡ with_opposites m ps
all_paired m ps xs le h =
    let long : length (take (2 * length ps) xs) ≡ 2 * length ps = length-take-le (2 * length ps) xs le in
    ext_get_or 0 (take (2 * length ps) xs) (with_opposites m ps) (long ∙ sym (twice_long m ps))
    (λ i lt. let less : i < 2 * length ps = omega (arith, lt, long) in
    get_or-take (2 * length ps) xs i 0 less ∙ ⊎_elim
    (λ e. let k : e.0 < length ps = omega (arith, less, e.1) in ap (λ z. get_or xs z 0) e.1 ∙ (h e.0 k).0 ∙ sym (pairs_are m ps e.0 k).0 ∙ ap (λ z. get_or (with_opposites m ps) z 0) (sym e.1))
    (λ e. let k : e.0 < length ps = omega (arith, less, e.1) in ap (λ z. get_or xs z 0) e.1 ∙ (h e.0 k).1 ∙ sym (pairs_are m ps e.0 k).1 ∙ ap (λ z. get_or (with_opposites m ps) z 0) (sym e.1))
    (even_or_odd i))

-- opposites of facts are facts
pub pairs_are_facts : (m : Meaning) → Bounded m → (ps : List ℕ) → ((k : ℕ) → k < length ps → get_or ps k 0 < m.facts)
    → (i : ℕ) → i < length (with_opposites m ps) → get_or (with_opposites m ps) i 0 < m.facts
pairs_are_facts m b ps facts i lt = ⊎_elim
    (λ e. let k : e.0 < length ps = omega (arith, lt, twice_long m ps, e.1) in omega (arith, ap (λ z. get_or (with_opposites m ps) z 0) e.1, (pairs_are m ps e.0 k).0, facts e.0 k))
    (λ e. let k : e.0 < length ps = omega (arith, lt, twice_long m ps, e.1) in
    let o = b.has_opposite (get_or ps e.0 0) (facts e.0 k) in
    omega (arith, ap (λ z. get_or (with_opposites m ps) z 0) e.1, (pairs_are m ps e.0 k).1, ap or_0 o.1, o.2))
    (even_or_odd i)

-- a question of pairs is proper
pub proper_pairs : (m : Meaning) → Bounded m → (ps goals : List ℕ) → length ps ≤ 8 → Proper m (ask ps goals) → Proper m (ask (with_opposites m ps) goals)
proper_pairs m b ps goals few proper = record {
  few_predicates = omega (arith, twice_long m ps, few);
  few_goals = proper.few_goals;
  predicates_are_facts = pairs_are_facts m b ps proper.predicates_are_facts;
  goals_are_facts = proper.goals_are_facts;
}
