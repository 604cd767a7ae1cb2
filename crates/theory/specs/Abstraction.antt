-- An abstraction: the question that has each predicate and its opposite, and what its full cases say.
--
--   ask             the question with these predicates and goals
--   with_opposites  each predicate at an even position, its opposite behind it
--   FullCase        exactly one of each pair is chosen
--   Implies         every model of the full case makes some goal true
use Rattle.std.specs.Prelude.{◌≡◌, ℕ, ◌+◌, ◌*◌, ◌<◌, true, not, List, [], ◌∷◌, length, ℤ, Some, None, Option, slice_index}
use Rattle.theory.specs.Theory.{Meaning}
use Rattle.theory.specs.Rounds.{Question, bit}

abbrev pub ask : List ℕ → List ℕ → Question
ask predicates goals = record { predicates = predicates; goals = goals }

abbrev pub or_0 : Option ℕ → ℕ
or_0 (Some g) = g
or_0 None = 0

-- each predicate at position 2 * k, and its opposite at 2 * k + 1
abbrev pub with_opposites : Meaning → List ℕ → List ℕ
with_opposites m [] = []
with_opposites m (p ∷ ps) = p ∷ or_0 (m.opposite p) ∷ with_opposites m ps

-- a full case chooses exactly one of each pair
abbrev pub FullCase : ℕ → ℕ → Type 0
FullCase n c = (k : ℕ) → k < n → bit c (2 * k + 1) ≡ not (bit c (2 * k))

-- every model that makes each predicate as true as the case says makes some goal true
abbrev pub Implies : Meaning → List ℕ → List ℕ → ℕ → Type 0
Implies m ps gs c = (v : List ℤ) → m.models v ≡ true → ((k : ℕ) → k < length ps → m.truth v (slice_index ps k) ≡ bit c (2 * k))
    → (j : ℕ) × (j < length gs) × (m.truth v (slice_index gs j) ≡ true)
