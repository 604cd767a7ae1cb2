-- What is proved of every question over every theory that shows the laws.
--
--   BelongingIsImpossible    the rules derive the contradiction from exactly the impossible choices
--   RoundsAreFew             every question has a round count, and it is at most one more than the number of facts
--   FullCasesImply           a full case belongs to an abstraction exactly when it implies that some goal is true
--   WorkingRow               a row of one of the question's working sets
use Rattle.std.specs.Prelude.{ℕ, ◌+◌, ◌≤◌, ◌↔◌, List, length}
use Rattle.theory.specs.Theory.{Meaning, Lawful}
use Rattle.theory.specs.Rounds.{Question, Proper, Derives, Impossible, RoundCount}
use Rattle.theory.specs.Abstraction.{ask, with_opposites, FullCase, Implies}
use Rattle.diagrams.specs.Diagram.{Choices, Part, RowOf}
use Rattle.saturation.specs.Working.{Working}

abbrev pub BelongingIsImpossible : Type 0
BelongingIsImpossible = (m : Meaning) (q : Question) → Lawful m → Proper m q → (c : ℕ) → Derives m q c ↔ Impossible m q c

abbrev pub RoundsAreFew : Type 0
RoundsAreFew = (m : Meaning) (q : Question) → Lawful m → Proper m q → (n : ℕ) × RoundCount m q n × (n ≤ m.facts + 1)

abbrev pub FullCasesImply : Type 0
FullCasesImply = (m : Meaning) (ps gs : List ℕ) → Lawful m → Proper m (ask ps gs) → Proper m (ask (with_opposites m ps) gs) → (c : ℕ) → FullCase (length ps) c
    → Derives m (ask (with_opposites m ps) gs) c ↔ Implies m ps gs c

abbrev pub WorkingRow : Meaning → Question → Part → Type 0
WorkingRow m q x = (s : Choices) × Working m q s × RowOf s x
