-- What stands before the first round: the positions of the predicates one after the other, then the goals.
use Rattle.std.proofs.Common.{◌≡◌, ℕ, suc, ◌+◌, ◌<◌, ◌≤◌, Bool, true, false, ◌&&◌, ◌||◌, ◌⊎◌, List, length, get_or, set, Some, None, sym, refl, ap, ◌∙◌, subst, ap₂, inl, inr, ⊎_elim, arith, get_or-set_other, get_or-set_same}
use mathlib.Core.Path.{fun_ext}
use Rattle.std.proofs.lemmas.Bool.{cases_eq, eq-eqb, ne_eqb}
use Rattle.diagrams.specs.declared.Row.{Row}
use Rattle.diagrams.specs.declared.Operation.TheVariants.{Union}
use Rattle.theory.specs.declared.Conclusion.{Conclusion}
use Rattle.theory.specs.declared.Conclusion.TheVariants.{Fact, Contradiction}
use Rattle.theory.specs.Theory.{Meaning}
use Rattle.theory.specs.Counting.{MoreThan}
use Rattle.theory.specs.Rounds.{bit, some_below, opposes, start}
use Rattle.theory.specs.Abstraction.{ask}
use Rattle.diagrams.specs.Diagram.{Choices, RowOf, InUse, Sound, member}
use Rattle.diagrams.specs.Making.{Adds}
use Rattle.diagrams.specs.Books.{capacity, union_or_intersection}
use Rattle.diagrams.proofs.Shortening.{member_0, member_1}
use Rattle.saturation.specs.Stages.{Family, slot, Known, Stands, Half, started, StartSet, position_set, predicate_set, opposed, TooMany, BothHalves, Started}
use Rattle.saturation.proofs.Saturating.{no_progress, set_made, progress_on, same_progress, too_many_since}
use Rattle.saturation.proofs.Placing.{stands_later, stands_same, half_later, or_here, or_other, or_false}

no_set : (ps : List ℕ) (s : Choices) → StartSet ps 0 s → ⊥
no_set ps s (position_set j lt) = omega (arith, lt)
no_set ps s (predicate_set j lt) = omega (arith, lt)

-- before the first position
pub start_begins : (facts : ℕ) (ps : List ℕ) (rows : List Row) (count : ℕ) (standing : List ℕ) → Sound rows count → ((k : ℕ) → k < facts + 1 → get_or standing k 0 ≡ 0) → Started facts ps 0 rows count rows count standing
start_begins facts ps rows count standing sound zeros = record {
  olds = none;
  progress = same_progress rows count rows count (λ _. ⊥) (StartSet ps 0) (λ s. ((λ b. absurd b), λ d. absurd (no_set ps s d))) (no_progress rows count sound);
}
  where
    nothing : (k : ℕ) → k < facts + 1 → Stands rows count (get_or standing k 0) (λ c. false)
    nothing k lt = record { held = omega (arith, zeros k lt); reads = λ c. ap (λ z. member rows z c) (zeros k lt) ∙ member_0 rows c }

    none : Half facts rows count standing (started ps 0)
    none (Fact f) lt = nothing f (omega (arith, lt))
    none Contradiction known = nothing facts (omega arith)

pub start_set_more : (ps : List ℕ) (i j : ℕ) → i ≤ j → (s : Choices) → StartSet ps i s → StartSet ps j s
start_set_more ps i j le s (position_set k lt) = position_set k (omega (arith, lt, le))
start_set_more ps i j le s (predicate_set k lt) = predicate_set k (omega (arith, lt, le))

abbrev by_position : ℕ → Choices
by_position k c = bit c k

abbrev by_predicate : List ℕ → ℕ → Choices
by_predicate ps k c = started ps (suc k) c (Fact (get_or ps k 0))

set_split : (ps : List ℕ) (i : ℕ) (s : Choices) → StartSet ps (suc i) s → (StartSet ps i s ⊎ (s ≡ by_position i)) ⊎ (s ≡ by_predicate ps i)
set_split ps i s (position_set j lt) = ⊎_elim (λ q. inl (inr (ap by_position q))) (λ ne. inl (inl (position_set j (omega (arith, lt, ne))))) (cases_eq j i)
set_split ps i s (predicate_set j lt) = ⊎_elim (λ q. inr (ap (by_predicate ps) q)) (λ ne. inl (inl (predicate_set j (omega (arith, lt, ne))))) (cases_eq j i)

module _ (facts : ℕ) (ps : List ℕ) (k : ℕ) {rows₀ : List Row} {count₀ : ℕ} {rows : List Row} {count : ℕ} {standing : List ℕ} (h : Started facts ps k rows₀ count₀ rows count standing) where
  -- the position's set does not fit
  pub position_full : MoreThan (capacity rows) (λ x. InUse rows count x ⊎ RowOf (by_position k) x) → TooMany rows₀ count₀ (StartSet ps (suc k))
  position_full t = too_many_since (StartSet ps k) (StartSet ps (suc k)) h.progress (start_set_more ps k (suc k) (omega arith)) (RowOf (by_position k)) (λ x row. (by_position k, position_set k (omega arith), row)) t

  module _ {rows₁ : List Row} {count₁ n₁ : ℕ} (a : Adds rows count rows₁ count₁ (by_position k) n₁) (p : ℕ) (here : get_or ps k 0 ≡ p) (known : p < facts) where
    abbrev union : Choices
    union = union_or_intersection Union rows₁ (get_or standing p 0) n₁

    olds₁ : Half facts rows₁ count₁ standing (started ps k)
    olds₁ = half_later h.progress.sound a.stay a.more facts standing (started ps k) h.olds

    union_at : (c : ℕ) → union c ≡ started ps (suc k) c (Fact p)
    union_at c = ap₂ ◌||◌ ((olds₁ (Fact p) known).reads c) (a.reads c) ∙ or_here false _ (bit c k) ∙ ap (λ z. (bit c k && z) || started ps k c (Fact p)) (sym (eq-eqb (get_or ps k 0) p here))

    union_is : union ≡ by_predicate ps k
    union_is = fun_ext (λ c. union_at c ∙ ap (λ z. started ps (suc k) c (Fact z)) (sym here))

    pub union_full : MoreThan (capacity rows₁) (λ x. InUse rows₁ count₁ x ⊎ RowOf union x) → TooMany rows₀ count₀ (StartSet ps (suc k))
    union_full t = too_many_since (λ s. StartSet ps k s ⊎ (s ≡ by_position k)) (StartSet ps (suc k)) (progress_on (StartSet ps k) (λ s. s ≡ by_position k) h.progress (set_made (by_position k) n₁ a))
        (λ s. ⊎_elim (start_set_more ps k (suc k) (omega arith) s) (λ q. subst (StartSet ps (suc k)) (sym q) (position_set k (omega arith))))
        (RowOf union) (λ x row. (by_predicate ps k, predicate_set k (omega arith), subst (λ z. RowOf z x) union_is row)) t

    module _ {rows₂ : List Row} {count₂ n₂ : ℕ} (b : Adds rows₁ count₁ rows₂ count₂ union n₂) (room : p < length standing) where
      new_number : (x : Conclusion) → Known facts x → Stands rows₂ count₂ (get_or (set standing p n₂) (slot facts x) 0) (λ c. started ps (suc k) c x)
      new_number (Fact f) lt = ⊎_elim
          (λ q. subst (λ z. Stands rows₂ count₂ (get_or (set standing p n₂) z 0) (λ c. started ps (suc k) c (Fact z))) (sym q)
          (stands_same {s = union} (get_or-set_same standing p n₂ 0 room) union_at (record { held = b.held; reads = b.reads })))
          (λ ne. stands_same {s = λ c. started ps k c (Fact f)} (get_or-set_other standing p f n₂ 0 ne)
          (λ c. or_other false (started ps k c (Fact f)) (bit c k) ∙ ap (λ z. (bit c k && z) || started ps k c (Fact f)) (sym (ne_eqb (get_or ps k 0) f (λ e. ne (sym e ∙ here)))))
          (stands_later a.sound b.stay b.more (olds₁ (Fact f) lt)))
          (cases_eq f p)
      new_number Contradiction known' = stands_same {s = λ c. false} (get_or-set_other standing p facts n₂ 0 (λ e. omega (arith, e, known))) (λ c. refl) (stands_later a.sound b.stay b.more (olds₁ Contradiction tt))

      -- one position more
      pub position_done : Started facts ps (suc k) rows₀ count₀ rows₂ count₂ (set standing p n₂)
      position_done = record {
        olds = new_number;
        progress = same_progress rows₀ count₀ rows₂ count₂ (λ s. (StartSet ps k s ⊎ (s ≡ by_position k)) ⊎ (s ≡ union)) (StartSet ps (suc k))
            (λ s. (
              ⊎_elim (⊎_elim (start_set_more ps k (suc k) (omega arith) s) (λ q. subst (StartSet ps (suc k)) (sym q) (position_set k (omega arith)))) (λ q. subst (StartSet ps (suc k)) (sym (q ∙ union_is)) (predicate_set k (omega arith))),
              λ d. ⊎_elim inl (λ q. inr (q ∙ sym union_is)) (set_split ps k s d),
            ))
            (progress_on (λ s. StartSet ps k s ⊎ (s ≡ by_position k)) (λ s. s ≡ union) (progress_on (StartSet ps k) (λ s. s ≡ by_position k) h.progress (set_made (by_position k) n₁ a)) (set_made union n₂ b));
      }

or_true : (a b : Bool) → true ≡ a || (true || b)
or_true true b = refl
or_true false b = refl

module _ (m : Meaning) (goals : List ℕ) (S : Family) (rows : List Row) (count : ℕ) (standing : List ℕ) where
  -- before the first goal
  pub goals_begin : Half m.facts rows count standing S → Half m.facts rows count standing (opposed m goals 0 S)
  goals_begin h (Fact f) lt = stands_same {s = λ c. S c (Fact f)} refl (λ c. or_false (S c (Fact f))) (h (Fact f) lt)
  goals_begin h Contradiction known = h Contradiction tt

  module _ (j : ℕ) (h : Half m.facts rows count standing (opposed m goals j S)) where
    pub goal_without : m.opposite (get_or goals j 0) ≡ None → Half m.facts rows count standing (opposed m goals (suc j) S)
    goal_without e (Fact f) lt = stands_same {s = λ c. opposed m goals j S c (Fact f)} refl (λ c. ap (λ o. S c (Fact f) || (opposes o f || some_below j (λ i. opposes (m.opposite (get_or goals i 0)) f))) (sym e)) (h (Fact f) lt)
    goal_without e Contradiction known = h Contradiction tt

    -- all choices have the goal's opposite
    pub goal_opposed : (o : ℕ) → m.opposite (get_or goals j 0) ≡ Some o → o < m.facts → o < length standing → Half m.facts rows count (set standing o 1) (opposed m goals (suc j) S)
    goal_opposed o e known room (Fact f) lt = ⊎_elim
        (λ q. subst (λ z. Stands rows count (get_or (set standing o 1) z 0) (λ c. opposed m goals (suc j) S c (Fact z))) (sym q)
        (stands_same {n = 1} {s = λ c. true} (get_or-set_same standing o 1 0 room)
        (λ c. or_true (S c (Fact o)) (some_below j (λ i. opposes (m.opposite (get_or goals i 0)) o)) ∙ ap (λ z. S c (Fact o) || (z || some_below j (λ i. opposes (m.opposite (get_or goals i 0)) o))) (sym (ap (λ z. opposes z o) e ∙ eq-eqb o o refl)))
        (record { held = omega arith; reads = λ c. member_1 rows c })))
        (λ ne. stands_same {s = λ c. opposed m goals j S c (Fact f)} (get_or-set_other standing o f 1 0 ne)
        (λ c. ap (λ z. S c (Fact f) || (z || some_below j (λ i. opposes (m.opposite (get_or goals i 0)) f))) (sym (ap (λ z. opposes z f) e ∙ ne_eqb o f (λ w. ne (sym w))))) (h (Fact f) lt))
        (cases_eq f o)
    goal_opposed o e known room Contradiction known' = stands_same {s = λ c. S c Contradiction} (get_or-set_other standing o m.facts 1 0 (λ q. omega (arith, q, known))) (λ c. refl) (h Contradiction tt)

-- positions and goals together are what a choice starts with
pub starts : (m : Meaning) (ps goals : List ℕ) (rows : List Row) (count : ℕ) (standing : List ℕ)
    → Half m.facts rows count standing (opposed m goals (length goals) (started ps (length ps))) → Half m.facts rows count standing (λ c. start m (ask ps goals) c)
starts m ps goals rows count standing h (Fact f) lt = h (Fact f) lt
starts m ps goals rows count standing h Contradiction known = h Contradiction tt

-- the round's half takes over what stands
pub halves_begin : (facts : ℕ) (S : Family) {rows : List Row} {count : ℕ} {standing : List ℕ} → Half facts rows count standing S → BothHalves facts rows count standing standing S
halves_begin facts S h = record { olds = h; news = h }
