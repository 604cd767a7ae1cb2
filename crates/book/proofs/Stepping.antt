-- What a public call does begins or continues a run.
use Rattle.std.proofs.Common.{◌≡◌, ℕ, List, None, Result, sym, subst}
use Rattle.theory.specs.declared.Theory.{Ghosts}
use Rattle.theory.specs.Means.{meaning}
use Rattle.theory.specs.Abstraction.{ask, with_opposites}
use Rattle.diagrams.specs.declared.Row.{Row}
use Rattle.diagrams.specs.Books.{Book, opening}
use Rattle.book.specs.declared.faults.QuestionFault.{QuestionFault}
use Rattle.book.specs.Questions.{Asked, first_fault}
use Rattle.book.specs.Runs.{Call, Answer, Serves, Allowed, Begins, GoesOn, at_opening, Run, opened, called, question, abstraction}

pub begun : (slice : List Row) (b : Book) → b ≡ opening slice → Begins b
begun slice b e = subst (λ z. Run z at_opening) (sym e) (opened slice)

pub goes_on : (b : Book) (call : Call) (r : Answer call) (b' : Book) → Allowed call → Serves b call r b' → GoesOn b call r b'
goes_on b call r b' allowed served before run = called run call r b' allowed served

module _ {X : Type 0} (g : Ghosts X) (t : X) (ps gs : List ℕ) (work : ℕ) (b b' : Book) (r : Result (record { 0 : ℕ; 1 : ℕ }) QuestionFault) where
  -- a question that passed its checks
  pub question_goes_on : first_fault (g.facts t) 16 ps gs work ≡ None → Asked (meaning g t) (ask ps gs) None b b' r → GoesOn b (question (meaning g t) ps gs work) r b'
  question_goes_on none asked = goes_on b (question (meaning g t) ps gs work) r b' (g.lawful t) (subst (λ z. Asked (meaning g t) (ask ps gs) z b b' r) (sym none) asked)

  -- an abstraction that passed its checks
  pub abstraction_goes_on : first_fault (g.facts t) 8 ps gs work ≡ None → {pairs : List ℕ} → pairs ≡ with_opposites (meaning g t) ps → Asked (meaning g t) (ask pairs gs) None b b' r → GoesOn b (abstraction (meaning g t) ps gs work) r b'
  abstraction_goes_on none e asked =
      let m = meaning g t in
      let served = subst (λ xs. Asked m (ask xs gs) None b b' r) e asked in
      goes_on b (abstraction m ps gs work) r b' (g.lawful t) (subst (λ z. Asked m (ask (with_opposites m ps) gs) z b b' r) (sym none) served)
