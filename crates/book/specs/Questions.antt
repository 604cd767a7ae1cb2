-- The checks of a question before its rows, its answer, and what its work slice holds afterwards.
--
--   question_fault_number  why a question or an abstraction was refused
--   all_facts              every number of a list is a fact
--   first_fault            the first check that fails, of those that come before the rows
--   work_after             the work slice: untouched where a check fails, else zero in front
--   Answered               what a question that is answered leaves, and what its answer says
--   Asked                  what a question leaves: refused by a check, answered, or refused for want of rows
--   Implied                what the full cases of an abstraction's answer say
use Rattle.std.specs.Prelude.{◌≡◌, ℕ, ◌+◌, ◌*◌, ◌^◌, ◌<◌, Bool, true, cond, not, ◌&&◌, ◌↔◌, List, [], ◌∷◌, ◌++◌, length, drop, replicate, Some, None, Ok, Err, Option, Result, nat_lt}
use Rattle.theory.specs.Theory.{Meaning}
use Rattle.theory.specs.Rounds.{Question, Derives, Impossible, RoundCount}
use Rattle.theory.specs.Abstraction.{FullCase, Implies}
use Rattle.diagrams.specs.Diagram.{member}
use Rattle.diagrams.specs.Books.{Book, Held, Grows, RefusedFull}
use Rattle.saturation.specs.Statements.{WorkingRow}
use Rattle.book.specs.declared.faults.QuestionFault.{QuestionFault}
use Rattle.book.specs.declared.faults.QuestionFault.TheVariants.{TooManyPredicates, TooManyGoals, NoFact, ShortWork, Full}

abbrev pub question_fault_number : QuestionFault → ℕ
question_fault_number TooManyPredicates = 9
question_fault_number TooManyGoals = 10
question_fault_number NoFact = 11
question_fault_number ShortWork = 12
question_fault_number Full = 13

abbrev pub all_facts : ℕ → List ℕ → Bool
all_facts facts [] = true
all_facts facts (x ∷ xs) = nat_lt x facts && all_facts facts xs

-- `limit` is 16 for a question and 8 for an abstraction
abbrev pub first_fault : ℕ → ℕ → List ℕ → List ℕ → ℕ → Option QuestionFault
first_fault facts limit predicates goals work =
    cond (nat_lt limit (length predicates)) (Some TooManyPredicates)
    (cond (nat_lt 8 (length goals)) (Some TooManyGoals)
    (cond (not (all_facts facts predicates && all_facts facts goals)) (Some NoFact)
    (cond (nat_lt work (2 * (facts + 1))) (Some ShortWork) None)))

abbrev pub work_after : ℕ → Option QuestionFault → List ℕ → List ℕ
work_after facts (Some fault) work = work
work_after facts None work = replicate (2 * (facts + 1)) 0 ++ drop (2 * (facts + 1)) work

-- n is the number of exactly the choices from which the rules derive the contradiction, which are the impossible ones, and
-- k the most rounds that one of them gained in; the rows of exactly the working sets were added
pub record Answered (m : Meaning) (q : Question) (b : Book) (n k : ℕ) (b' : Book) : Type 0 where
  pub grows : Grows b b' (WorkingRow m q)
  pub held : Held b' n
  pub belong : (c : ℕ) → c < 2 ^ 16 → (member b'.rows n c ≡ true) ↔ Derives m q c
  pub impossible : (c : ℕ) → c < 2 ^ 16 → (member b'.rows n c ≡ true) ↔ Impossible m q c
  pub rounds : RoundCount m q k

-- nothing moves where a check fails; else the question is answered, or the working sets' rows outnumber the book's
abbrev pub Asked : Meaning → Question → Option QuestionFault → Book → Book → Result (record { 0 : ℕ; 1 : ℕ }) QuestionFault → Type 0
Asked m q (Some fault) b b' r = (r ≡ Err fault) × (b' ≡ b)
Asked m q None b b' (Ok p) = Answered m q b p.0 p.1 b'
Asked m q None b b' (Err fault) = (fault ≡ Full) × RefusedFull b b' (WorkingRow m q)

-- a full case belongs to the answer exactly when it implies that some goal is true
abbrev pub Implied : Meaning → List ℕ → List ℕ → Option QuestionFault → Book → Result (record { 0 : ℕ; 1 : ℕ }) QuestionFault → Type 0
Implied m ps gs (Some fault) b' r = Unit {0}
Implied m ps gs None b' (Ok p) = (c : ℕ) → c < 2 ^ 16 → FullCase (length ps) c → (member b'.rows p.0 c ≡ true) ↔ Implies m ps gs c
Implied m ps gs None b' (Err fault) = Unit {0}
