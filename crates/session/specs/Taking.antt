-- What taking a record does: the checks that come before the call on the book or a full table, in their order, and what
-- waits afterwards.
--
--   err_or            the refusal of the first check, or else that of a later one
--   facts_refused     why what waits is not stated in a theory: the predicates come before the goals
--   theory_refused    why a question over a theory is refused: the theory comes before the facts
--   asking_refused    the same so far on, with so many terms: the number of answers comes before the theory
--   first_refusal     why a record that was read, or was not, is refused so far on, with so many terms
--   predicates_after  the predicates that wait after a record that is not refused
--   goals_after       the goals
--   asks              whether a record is a question or an abstraction
--   Accepted          a predicate or a goal that no check refuses is taken
--   told              what is answered for a term, by its number in the table or why it is not there
--   TableAfter        a term is added to the table, and no other record changes it
use Rattle.std.specs.Prelude.{◌≡◌, ℕ, Bool, true, false, cond, List, [], ◌∷◌, ◌++◌, length, Some, None, Ok, Err, Option, Result, ◌==◌, nat_lt}
use Rattle.arrayvec.specs.ArrayVec.{array_vec_len}
use Rattle.std.specs.Option.{option_map}
use Rattle.theory.specs.declared.faults.TheoryFault.TheVariants.{TooManyVariables}
use Rattle.equality.specs.declared.Term.{Term as Row}
use Rattle.terms.specs.declared.faults.TermFault.{TermFault}
use Rattle.terms.specs.Adding.{refusal, Adds}
use Rattle.records.specs.declared.faults.RecordFault.{RecordFault}
use Rattle.records.specs.declared.faults.RecordFault.TheVariants.{TooManyPredicates, TooManyGoals, TooManyAnswers}
use Rattle.records.specs.declared.line.Line.{Line}
use Rattle.records.specs.declared.record.Statement.{Statement}
use Rattle.records.specs.declared.record.TheoryName.{TheoryName}
use Rattle.records.specs.declared.record.TheoryName.TheVariants.{Terms, Differences}
use Rattle.records.specs.declared.record.Record.{Record as Said}
use Rattle.records.specs.declared.record.Record.TheVariants.{Term as of_term, Predicate, Goal, Question, Abstraction}
use Rattle.records.specs.Pending.{predicates_of, goals_of}
use Rattle.session.specs.declared.faults.Fault.{Fault}
use Rattle.session.specs.declared.faults.Fault.TheVariants.{Record, Term, Theory}
use Rattle.session.specs.declared.progress.Progress.{Progress}
use Rattle.session.specs.Stated.{terms_stated, differences_stated, all_stated}

abbrev pub err_or : {X : Type 0} → Result X Fault → Option Fault → Option Fault
err_or (Err fault) later = Some fault
err_or (Ok x) later = later

abbrev pub facts_refused : (Statement → Result ℕ Fault) → List Statement → List Statement → Option Fault
facts_refused stated ps gs = err_or (all_stated stated ps) (err_or (all_stated stated gs) None)

abbrev pub theory_refused : TheoryName → ℕ → List Statement → List Statement → Option Fault
theory_refused Terms count ps gs = facts_refused (terms_stated count) ps gs
theory_refused (Differences v) count ps gs = cond (nat_lt 8 v) (Some (Theory TooManyVariables)) (facts_refused (differences_stated v) ps gs)

abbrev pub asking_refused : Progress → ℕ → TheoryName → Option Fault
asking_refused p count name =
    cond (array_vec_len p.answers == 256) (Some (Record TooManyAnswers))
    (theory_refused name count (predicates_of p.pending) (goals_of p.pending))

abbrev pub first_refusal : Progress → ℕ → Result Said RecordFault → Option Fault
first_refusal p count (Err fault) = Some (Record fault)
first_refusal p count (Ok (of_term arity symbol left right)) = option_map Term (refusal count (record { symbol = symbol; arity = arity; left = left; right = right }))
first_refusal p count (Ok (Predicate s)) = cond (nat_lt (length (predicates_of p.pending)) 16) None (Some (Record TooManyPredicates))
first_refusal p count (Ok (Goal s)) = cond (nat_lt (length (goals_of p.pending)) 8) None (Some (Record TooManyGoals))
first_refusal p count (Ok (Question name)) = asking_refused p count name
first_refusal p count (Ok (Abstraction name)) = asking_refused p count name

-- a record that was read puts one more behind those that wait, or lets all go, or leaves them
abbrev pub predicates_after : Result Said RecordFault → List Statement → List Statement
predicates_after (Err fault) ps = ps
predicates_after (Ok (of_term arity symbol left right)) ps = ps
predicates_after (Ok (Predicate p)) ps = ps ++ p ∷ []
predicates_after (Ok (Goal g)) ps = ps
predicates_after (Ok (Question name)) ps = []
predicates_after (Ok (Abstraction name)) ps = []

abbrev pub goals_after : Result Said RecordFault → List Statement → List Statement
goals_after (Err fault) gs = gs
goals_after (Ok (of_term arity symbol left right)) gs = gs
goals_after (Ok (Predicate p)) gs = gs
goals_after (Ok (Goal g)) gs = gs ++ g ∷ []
goals_after (Ok (Question name)) gs = []
goals_after (Ok (Abstraction name)) gs = []

abbrev pub asks : Result Said RecordFault → Bool
asks (Err fault) = false
asks (Ok (of_term arity symbol left right)) = false
asks (Ok (Predicate p)) = false
asks (Ok (Goal g)) = false
asks (Ok (Question name)) = true
asks (Ok (Abstraction name)) = true

abbrev pub Accepted : Result Said RecordFault → Option Fault → Result (Option Line) Fault → Type 0
Accepted (Err fault) refused result = Unit {0}
Accepted (Ok (of_term arity symbol left right)) refused result = Unit {0}
Accepted (Ok (Predicate s)) refused result = refused ≡ None → result ≡ Ok None
Accepted (Ok (Goal s)) refused result = refused ≡ None → result ≡ Ok None
Accepted (Ok (Question name)) refused result = Unit {0}
Accepted (Ok (Abstraction name)) refused result = Unit {0}

abbrev pub told : Result ℕ TermFault → Result (Option Line) Fault
told (Ok number) = Ok None
told (Err fault) = Err (Term fault)

-- before the record `count` of `rows` are terms, after it `count'` of `rows'`
abbrev pub TableAfter : Result Said RecordFault → List Row → ℕ → List Row → ℕ → Result (Option Line) Fault → Type 0
TableAfter (Err fault) rows count rows' count' result = (rows' ≡ rows) × (count' ≡ count)
TableAfter (Ok (of_term arity symbol left right)) rows count rows' count' result =
    (answer : Result ℕ TermFault) × Adds rows count (record { symbol = symbol; arity = arity; left = left; right = right }) rows' count' answer × (result ≡ told answer)
TableAfter (Ok (Predicate s)) rows count rows' count' result = (rows' ≡ rows) × (count' ≡ count)
TableAfter (Ok (Goal s)) rows count rows' count' result = (rows' ≡ rows) × (count' ≡ count)
TableAfter (Ok (Question name)) rows count rows' count' result = (rows' ≡ rows) × (count' ≡ count)
TableAfter (Ok (Abstraction name)) rows count rows' count' result = (rows' ≡ rows) × (count' ≡ count)
