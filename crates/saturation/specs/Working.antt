-- The working sets of a question: every set of choices that its saturation makes.
--
--   gathered_start  what a fact has gathered from the predicates at the positions below k
--   gathered_round  what a conclusion has gathered in a round, from before it and from the places below i
--   Changes         a round changes the set of some conclusion
--   Made            a round is made: each round before it changed some set
--   Working         a working set of the question (a word of our own)
use Rattle.std.specs.Prelude.{◌≡◌, ℕ, suc, ◌^◌, ◌<◌, true, ◌&&◌, ◌||◌, length, Some, ◌==◌, slice_index}
use Rattle.theory.specs.declared.Conclusion.{Conclusion}
use Rattle.theory.specs.declared.Rule.{Rule}
use Rattle.theory.specs.Theory.{Meaning, conclusion, premised}
use Rattle.theory.specs.Rounds.{Question, bit, some_below, facts_of, gives, after, Gains}
use Rattle.diagrams.specs.Diagram.{Choices}

-- what fact f has gathered from the predicates at the positions below k
abbrev pub gathered_start : Question → ℕ → ℕ → Choices
gathered_start q k f c = some_below k (λ j. bit c j && slice_index q.predicates j == f)

-- what x has gathered in round k, from before it and from the places below i
abbrev pub gathered_round : Meaning → Question → ℕ → ℕ → Conclusion → Choices
gathered_round m q k i x c = after m q c k x || some_below i (λ j. gives (after m q c k) (m.rule j) x)

-- round k changes the set of some conclusion
abbrev pub Changes : Meaning → Question → ℕ → Type 0
Changes m q k = (c : ℕ) × (c < 2 ^ 16) × Gains m q c k

-- round k is made: each round before it changed some set. The last round made is the first that changes none
abbrev pub Made : Meaning → Question → ℕ → Type 0
Made m q k = (j : ℕ) → j < k → Changes m q j

pub data Working (m : Meaning) (q : Question) : Choices → Type 0 where
  -- the choices that have position k
  position : (k : ℕ) → k < length q.predicates → Working m q (λ c. bit c k)
  -- their union with what its fact has gathered
  predicate : (k : ℕ) → k < length q.predicates → Working m q (gathered_start q (suc k) (slice_index q.predicates k))
  -- all choices, for a goal's opposite
  goal : (j : ℕ) → j < length q.goals → Working m q (λ c. true)
  -- the intersection of the premises' sets before the round; all choices for no premise
  premises : (k i : ℕ) (r : Rule) → Made m q k → m.rule i ≡ Some r → Working m q (λ c. premised (facts_of (after m q c k)) r)
  -- its union with what the conclusion has gathered
  concluded : (k i : ℕ) (r : Rule) → Made m q k → m.rule i ≡ Some r → Working m q (gathered_round m q k (suc i) (conclusion r))
