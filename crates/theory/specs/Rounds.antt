-- A question, its choices, and the rounds that each choice goes through.
--
--   Question     the predicates by position, and the goals
--   Proper       few enough of both, and all of them facts
--   bit          position k is chosen
--   choice_of    the choice that has exactly the positions that pass a test
--   some_below   some number below a limit passes a test
--   Gathered     what a choice has at some time: facts, and perhaps the contradiction
--   start        what a choice begins with: its chosen predicates and the opposites of all goals
--   gives        the rule at a place adds a conclusion to what stands
--   round        one round: every conclusion whose premises stood before it
--   after        what a choice has after so many rounds
--   Derives      some round adds the contradiction: the choice belongs to the question
--   Impossible   no model makes every chosen predicate true and every goal false
--   Gains        a round adds something
--   Gaining      how many rounds of a choice gain
--   RoundCount   the most gaining rounds that one of the question's choices has
use Rattle.std.specs.Prelude.{◌≡◌, ℕ, zero, suc, ◌+◌, ◌*◌, ◌/◌, ◌%◌, ◌^◌, ◌<◌, ◌≤◌, Bool, true, false, cond, ◌&&◌, ◌||◌, List, length, ℤ, Some, None, Option, ◌==◌, slice_index}
use Rattle.theory.specs.declared.Conclusion.{Conclusion}
use Rattle.theory.specs.declared.Conclusion.TheVariants.{Fact, Contradiction}
use Rattle.theory.specs.declared.Rule.{Rule}
use Rattle.theory.specs.Theory.{Meaning, conclusion, premised}
use Rattle.theory.specs.Counting.{Counts}

-- the predicates by position, and the goals
pub record Question : Type 0 where
  pub predicates : List ℕ
  pub goals : List ℕ

pub record Proper (m : Meaning) (q : Question) : Type 0 where
  pub few_predicates : length q.predicates ≤ 16
  pub few_goals : length q.goals ≤ 8
  pub predicates_are_facts : (k : ℕ) → k < length q.predicates → slice_index q.predicates k < m.facts
  pub goals_are_facts : (j : ℕ) → j < length q.goals → slice_index q.goals j < m.facts

-- bit k of a choice: position k is chosen
unfoldable pub bit : ℕ → ℕ → Bool
bit c k = c / 2 ^ k % 2 == 1

-- the choice that has those positions below n that pass a test
unfoldable pub choice_of : ℕ → (ℕ → Bool) → ℕ
choice_of zero has = 0
choice_of (suc n) has = cond (has 0) 1 0 + 2 * choice_of n (λ k. has (suc k))

-- some number below n passes the test
abbrev pub some_below : ℕ → (ℕ → Bool) → Bool
some_below zero p = false
some_below (suc n) p = p n || some_below n p

-- what a choice has at some time: facts, and perhaps the contradiction
abbrev pub Gathered : Type 0
Gathered = Conclusion → Bool

abbrev pub facts_of : Gathered → ℕ → Bool
facts_of s f = s (Fact f)

abbrev pub same : Conclusion → Conclusion → Bool
same (Fact f) (Fact g) = f == g
same (Fact f) Contradiction = false
same Contradiction (Fact g) = false
same Contradiction Contradiction = true

-- the opposite of goal g is f
abbrev pub opposes : Option ℕ → ℕ → Bool
opposes (Some h) f = h == f
opposes None f = false

-- a choice starts with its chosen predicates and the opposites of all goals
abbrev pub start : Meaning → Question → ℕ → Gathered
start m q c (Fact f) =
    some_below (length q.predicates) (λ k. bit c k && slice_index q.predicates k == f)
    || some_below (length q.goals) (λ j. opposes (m.opposite (slice_index q.goals j)) f)
start m q c Contradiction = false

-- the rule gives x, from what stands in s
abbrev pub gives : Gathered → Option Rule → Conclusion → Bool
gives s (Some r) x = premised (facts_of s) r && same (conclusion r) x
gives s None x = false

-- one round adds every conclusion whose premises stood before that round
abbrev pub round : Meaning → Gathered → Gathered
round m s x = s x || some_below m.places (λ i. gives s (m.rule i) x)

-- what a choice has after k rounds
unfoldable pub after : Meaning → Question → ℕ → ℕ → Gathered
after m q c zero = start m q c
after m q c (suc k) = round m (after m q c k)

-- a choice belongs to the question when some round adds the contradiction
abbrev pub Derives : Meaning → Question → ℕ → Type 0
Derives m q c = (k : ℕ) × (after m q c k Contradiction ≡ true)

-- no model makes every chosen predicate true and every goal false
abbrev pub Impossible : Meaning → Question → ℕ → Type 0
Impossible m q c = (v : List ℤ) → m.models v ≡ true
    → ((k : ℕ) → k < length q.predicates → bit c k ≡ true → m.truth v (slice_index q.predicates k) ≡ true)
    → ((j : ℕ) → j < length q.goals → m.truth v (slice_index q.goals j) ≡ false)
    → ⊥

-- round k, counted from 0, adds something
abbrev pub Gains : Meaning → Question → ℕ → ℕ → Type 0
Gains m q c k = (x : Conclusion) × (after m q c k x ≡ false) × (after m q c (suc k) x ≡ true)

-- the choice has n gaining rounds
abbrev pub Gaining : Meaning → Question → ℕ → ℕ → Type 0
Gaining m q c n = Counts (λ k. Gains m q c k) n

-- n is the most gaining rounds that one of the question's choices has
pub record RoundCount (m : Meaning) (q : Question) (n : ℕ) : Type 0 where
  pub reached : (c : ℕ) × (c < 2 ^ 16) × Gaining m q c n
  pub most : (c j : ℕ) → c < 2 ^ 16 → Gaining m q c j → j ≤ n
