-- The end of a saturation, and what it says of a question's answer.
use Rattle.std.proofs.Common.{ℕ, List, length, Ok, Err, Result, MatchResult}
use Rattle.theory.specs.Theory.{Meaning, Lawful}
use Rattle.theory.specs.Rounds.{Question}
use Rattle.diagrams.specs.declared.Row.{Row}
use Rattle.saturation.specs.Working.{Working}
use Rattle.saturation.specs.Stages.{Progress, StartSet, TooMany, QuietAt, Saturated}
use Rattle.saturation.proofs.Turning.{rounds_full, saturated}

pub saturation_ends : {E : Type 0} (m : Meaning) (q : Question) (l : Lawful m) {rows : List Row} {count : ℕ} {rows₁ : List Row} {count₁ : ℕ} → Progress rows count rows₁ count₁ (StartSet q.predicates (length q.predicates))
    → (rows₂ : List Row) (count₂ : ℕ) (o : Result (record { 0 : ℕ; 1 : ℕ }) E)
    → MatchResult o (λ p. QuietAt m q rows₁ count₁ rows₂ count₂ p.0 p.1) (λ _. TooMany rows₁ count₁ (Working m q))
    → MatchResult o (λ p. Saturated m q rows count rows₂ count₂ p.0 p.1) (λ _. TooMany rows count (Working m q))
saturation_ends m q l p rows₂ count₂ (Ok u) h = saturated m q l p h
saturation_ends m q l p rows₂ count₂ (Err e) h = rounds_full m q l p h
