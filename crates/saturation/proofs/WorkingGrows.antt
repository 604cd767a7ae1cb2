-- Adding a position to a choice never takes it out of a working set.
use Rattle.std.proofs.Common.{◌≡◌, ℕ, zero, suc, ◌<◌, ◌≤◌, Bool, true, ◌&&◌, eqb, length, get_or, Some, None, Option, refl, ⊎_elim, arith}
use Rattle.std.proofs.lemmas.Bool.{and_parts, and_from, or_cases, or_left, or_right}
use Rattle.theory.specs.declared.Conclusion.{Conclusion}
use Rattle.theory.specs.declared.Conclusion.TheVariants.{Fact, Contradiction}
use Rattle.theory.specs.declared.Rule.{Rule}
use Rattle.theory.specs.Theory.{Meaning, Lawful, conclusion, premised}
use Rattle.theory.specs.Rounds.{Question, Proper, Gathered, bit, some_below, facts_of, same, start, gives, after}
use Rattle.diagrams.specs.Diagram.{Choices}
use Rattle.saturation.specs.Working.{Working, position, predicate, goal, premises, concluded, gathered_start}
use Rattle.saturation.proofs.Closing.{some_from, some_since, premised_more, round_more}
use Rattle.diagrams.proofs.Mixing.{More}

pub some_more : (n : ℕ) (p q : ℕ → Bool) → ((i : ℕ) → i < n → p i ≡ true → q i ≡ true) → some_below n p ≡ true → some_below n q ≡ true
some_more n p q more h = let s = some_from n p h in some_since n q s.0 s.1 (more s.0 s.1 s.2)

gives_more : (s t : Gathered) → ((x : Conclusion) → s x ≡ true → t x ≡ true) → (o : Option Rule) (x : Conclusion) → gives s o x ≡ true → gives t o x ≡ true
gives_more s t more (Some r) x h = let p = and_parts (premised (facts_of s) r) (same (conclusion r) x) h in and_from (premised (facts_of t) r) (same (conclusion r) x) (premised_more (facts_of s) (facts_of t) (λ f. more (Fact f)) r p.0) p.1
gives_more s t more None x h = h

module _ (m : Meaning) (q : Question) (l : Lawful m) (proper : Proper m q) (c d : ℕ) (more : More c d) where
  gathered_more : (k f : ℕ) → k ≤ 16 → gathered_start q k f c ≡ true → gathered_start q k f d ≡ true
  gathered_more k f le h =
      some_more k (λ j. bit c j && eqb (get_or q.predicates j 0) f) (λ j. bit d j && eqb (get_or q.predicates j 0) f)
      (λ j lt on. let p = and_parts (bit c j) (eqb (get_or q.predicates j 0) f) on in and_from (bit d j) (eqb (get_or q.predicates j 0) f) (more j (omega (arith, lt, le)) p.0) p.1) h

  start_more : (x : Conclusion) → start m q c x ≡ true → start m q d x ≡ true
  start_more (Fact f) h = ⊎_elim (λ a. or_left _ _ (gathered_more (length q.predicates) f proper.few_predicates a)) (λ b. or_right _ _ b) (or_cases _ _ h)
  start_more Contradiction h = h

  pub after_more : (k : ℕ) (x : Conclusion) → after m q c k x ≡ true → after m q d k x ≡ true
  unfolding after
  after_more zero x h = start_more x h
  after_more (suc k) x h = round_more m l (after m q c k) (after m q d k) (after_more k) x h

  -- each working set that has c has d
  pub working_more : (s : Choices) → Working m q s → s c ≡ true → s d ≡ true
  working_more s (position k lt) h = more k (omega (arith, lt, proper.few_predicates)) h
  working_more s (predicate k lt) h = gathered_more (suc k) (get_or q.predicates k 0) (omega (arith, lt, proper.few_predicates)) h
  working_more s (goal j lt) h = refl
  working_more s (premises k i r made at) h = premised_more (facts_of (after m q c k)) (facts_of (after m q d k)) (λ f. after_more k (Fact f)) r h
  working_more s (concluded k i r made at) h =
      ⊎_elim (λ a. or_left _ _ (after_more k (conclusion r) a))
      (λ b. or_right (after m q d k (conclusion r)) _ (some_more (suc i) (λ j. gives (after m q c k) (m.rule j) (conclusion r)) (λ j. gives (after m q d k) (m.rule j) (conclusion r)) (λ j _ on. gives_more (after m q c k) (after m q d k) (after_more k) (m.rule j) (conclusion r) on) b))
      (or_cases (after m q c k (conclusion r)) (some_below (suc i) (λ j. gives (after m q c k) (m.rule j) (conclusion r))) h)
