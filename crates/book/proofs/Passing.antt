-- What the checks of a question say where none fails, and what its work slice is then.
use Rattle.std.proofs.Common.{◌≡◌, ℕ, zero, suc, ◌+◌, ◌*◌, ◌<◌, ◌≤◌, Bool, true, false, cond, not, ◌&&◌, ltb, List, [], ◌∷◌, ◌++◌, length, get_or, drop, replicate, Some, None, Option, sym, refl, ap, ◌∙◌, subst, ⊎_elim, arith, ext_get_or}
use Rattle.std.proofs.lemmas.List.{places}
use Rattle.std.specs.List.{list_all}
use Rattle.std.proofs.lemmas.Bool.{ltb-true, ltb-false, and_parts, not-false, cases_lt}
use Rattle.theory.specs.declared.Theory.{Ghosts}
use Rattle.theory.specs.Means.{meaning}
use Rattle.theory.specs.Theory.{Meaning}
use Rattle.theory.specs.Rounds.{Proper}
use Rattle.theory.specs.Abstraction.{ask, with_opposites}
use Rattle.book.specs.declared.faults.QuestionFault.{QuestionFault}
use Rattle.book.specs.declared.faults.QuestionFault.TheVariants.{TooManyPredicates, TooManyGoals, NoFact, ShortWork}
use Rattle.book.specs.Questions.{all_facts, first_fault, work_after}
use Rattle.book.specs.Work.{ZeroBelow, SameFrom}
use Rattle.book.proofs.Pairs.{proper_pairs}

abbrev IsNone : Option QuestionFault → Type 0
IsNone (Some e) = ⊥
IsNone None = Unit {0}

passed : (t : Bool) (e : QuestionFault) (o : Option QuestionFault) → cond t (Some e) o ≡ None → (t ≡ false) × (o ≡ None)
passed true e o h = absurd (subst IsNone (sym h) tt)
passed false e o h = (refl, h)

pub facts_all : (facts : ℕ) (xs : List ℕ) → list_all (λ x. ltb x facts) xs ≡ all_facts facts xs
facts_all facts [] = refl
facts_all facts (x ∷ xs) = ap (λ b. ltb x facts && b) (facts_all facts xs)

read_facts : (facts : ℕ) (xs : List ℕ) → all_facts facts xs ≡ true → (k : ℕ) → k < length xs → get_or xs k 0 < facts
read_facts facts [] h k lt = absurd (omega arith)
read_facts facts (x ∷ xs) h zero lt = ltb-true x facts (and_parts (ltb x facts) (all_facts facts xs) h).0
read_facts facts (x ∷ xs) h (suc k) lt = read_facts facts xs (and_parts (ltb x facts) (all_facts facts xs) h).1 k (omega arith)

pub record Passed (facts limit : ℕ) (predicates goals : List ℕ) (work : ℕ) : Type 0 where
  pub few : length predicates ≤ limit
  pub few_goals : length goals ≤ 8
  pub predicates_are_facts : (k : ℕ) → k < length predicates → get_or predicates k 0 < facts
  pub goals_are_facts : (k : ℕ) → k < length goals → get_or goals k 0 < facts
  pub long : 2 * (facts + 1) ≤ work

pub no_fault : (facts limit : ℕ) (predicates goals : List ℕ) (work : ℕ) → first_fault facts limit predicates goals work ≡ None → Passed facts limit predicates goals work
no_fault facts limit predicates goals work h =
    let a = passed (ltb limit (length predicates)) TooManyPredicates _ h in
    let b = passed (ltb 8 (length goals)) TooManyGoals _ a.1 in
    let c = passed (not (all_facts facts predicates && all_facts facts goals)) NoFact _ b.1 in
    let d = passed (ltb work (2 * (facts + 1))) ShortWork _ c.1 in
    let f = and_parts (all_facts facts predicates) (all_facts facts goals) (not-false _ c.0) in
    record {
      few = ltb-false limit (length predicates) a.0;
      few_goals = ltb-false 8 (length goals) b.0;
      predicates_are_facts = read_facts facts predicates f.0;
      goals_are_facts = read_facts facts goals f.1;
      long = ltb-false work (2 * (facts + 1)) d.0;
    }

low : (n : ℕ) (slice : List ℕ) (k : ℕ) → n ≤ length slice → k < n → get_or (replicate n 0 ++ drop n slice) k 0 ≡ 0
low n slice k le lt = grind (arith, places)

high : (n : ℕ) (slice : List ℕ) (k : ℕ) → n ≤ length slice → n ≤ k → k < length slice → get_or (replicate n 0 ++ drop n slice) k 0 ≡ get_or slice k 0
high n slice k le lo lt = grind (arith, places)

whole : (n : ℕ) (slice : List ℕ) → n ≤ length slice → length (replicate n 0 ++ drop n slice) ≡ length slice
whole n slice le = grind (arith, places)

-- zero in front, the rest as before
pub work_zeroed : (facts : ℕ) (work work' : List ℕ) → 2 * (facts + 1) ≤ length work → length work' ≡ length work
    → ZeroBelow work' (2 * (facts + 1)) → SameFrom (2 * (facts + 1)) work work' → work' ≡ work_after facts None work
work_zeroed facts work work' le long zeroed rest =
    let n = 2 * (facts + 1) in
    ext_get_or 0 work' (work_after facts None work) (long ∙ sym (whole n work le))
    (λ k lt. ⊎_elim (λ below. zeroed k below ∙ sym (low n work k le below)) (λ above. rest k above ∙ sym (high n work k le above (omega (arith, lt, long)))) (cases_lt k n))

-- a question that passes its checks is proper
pub passed_proper : (m : Meaning) (limit : ℕ) (predicates goals : List ℕ) (work : ℕ) → limit ≤ 16 → first_fault m.facts limit predicates goals work ≡ None → Proper m (ask predicates goals)
passed_proper m limit predicates goals work le none =
    let p = no_fault m.facts limit predicates goals work none in
    record { few_predicates = omega (arith, p.few, le); few_goals = p.few_goals; predicates_are_facts = p.predicates_are_facts; goals_are_facts = p.goals_are_facts }

-- an abstraction that passes its checks asks a proper question
pub pairs_proper : {X : Type 0} (g : Ghosts X) (t : X) (predicates goals : List ℕ) (work : ℕ) → first_fault (g.facts t) 8 predicates goals work ≡ None
    → {pairs : List ℕ} → pairs ≡ with_opposites (meaning g t) predicates → Proper (meaning g t) (ask pairs goals)
pairs_proper g t predicates goals work none e =
    let few = (no_fault (g.facts t) 8 predicates goals work none).few in
    subst (λ xs. Proper (meaning g t) (ask xs goals)) (sym e) (proper_pairs (meaning g t) (g.lawful t).bounds predicates goals few (passed_proper (meaning g t) 8 predicates goals work (omega arith) none))
