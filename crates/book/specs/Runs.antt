-- Runs: a book after its opening and any list of calls, and the numbers that it has given for which choices.
-- A step of a run is what the contract of the public call says, by the same definitions.
--
--   Call          a question, an abstraction, a join of two numbers, or a reading
--   Answer        what a call answers
--   Serves        what a call on a book leads to: its answer, and the book afterwards
--   GivenFor      what a number was given for, and Has: the choices of it
--   Same          the same choices
--   Given         a number with what it was given for
--   first_given   for which choices a book first gave a number
--   part          the choices with which a part of a join counts
--   gives_number  the number that a call gives, if any
--   Allowed       a question or an abstraction may bring any theory that shows the laws
--   Run           a book after its opening and a list of calls, with the numbers it has given
--   Begins        a run begins with this book, which has given 0 for no choice and 1 for every choice
--   GoesOn        what a call leads to is a step of each run that the book has gone through
use Rattle.std.specs.Prelude.{◌≡◌, ℕ, ◌^◌, ◌<◌, Bool, true, cond, ◌⊎◌, ◌↔◌, List, [], ◌∷◌, ◌++◌, Some, None, Ok, Err, Option, Result, ◌==◌}
use Rattle.theory.specs.Theory.{Meaning, Lawful}
use Rattle.theory.specs.Rounds.{Question, Impossible}
use Rattle.theory.specs.Abstraction.{ask, with_opposites}
use Rattle.diagrams.specs.declared.Row.{Row}
use Rattle.diagrams.specs.declared.Operation.{Operation}
use Rattle.diagrams.specs.declared.Operation.TheVariants.{Union, Intersection}
use Rattle.diagrams.specs.Diagram.{member}
use Rattle.diagrams.specs.Books.{Book, opening}
use Rattle.book.specs.declared.faults.QuestionFault.{QuestionFault}
use Rattle.book.specs.declared.faults.BookFault.{BookFault}
use Rattle.book.specs.Questions.{first_fault, Asked}
use Rattle.book.specs.Calls.{Joins, Reads}

-- questions and abstractions name a theory, predicates, goals and the length of the work slice; joins two numbers; readings a number and a choice
pub data Call : Type 0 where
  question abstraction : Meaning → List ℕ → List ℕ → ℕ → Call
  join : Operation → ℕ → ℕ → Call
  reading : ℕ → ℕ → Call

-- a number and a round count, a number, or yes or no; or why the call was refused
abbrev pub Answer : Call → Type 0
Answer (question m ps gs work) = Result (record { 0 : ℕ; 1 : ℕ }) QuestionFault
Answer (abstraction m ps gs work) = Result (record { 0 : ℕ; 1 : ℕ }) QuestionFault
Answer (join op x y) = Result ℕ BookFault
Answer (reading n c) = Result Bool BookFault

abbrev pub Serves : Book → (call : Call) → Answer call → Book → Type 0
Serves b (question m ps gs work) r b' = Asked m (ask ps gs) (first_fault m.facts 16 ps gs work) b b' r
Serves b (abstraction m ps gs work) r b' = Asked m (ask (with_opposites m ps) gs) (first_fault m.facts 8 ps gs work) b b' r
Serves b (join op x y) r b' = Joins op x y b r b'
Serves b (reading n c) r b' = Reads b.rows b.count n c r × (b' ≡ b)

-- what a number was given for
pub data GivenFor : Type 0 where
  none all : GivenFor
  impossible : Meaning → Question → GivenFor
  together_of : Operation → GivenFor → GivenFor → GivenFor
  -- what reading the number says, over these rows
  read : List Row → ℕ → GivenFor

abbrev pub Has : GivenFor → ℕ → Type 0
Has none c = ⊥
Has all c = Unit {0}
Has (impossible m q) c = Impossible m q c
Has (together_of Union s t) c = Has s c ⊎ Has t c
Has (together_of Intersection s t) c = Has s c × Has t c
Has (read rows n) c = member rows n c ≡ true

-- the same choices
abbrev pub Same : GivenFor → GivenFor → Type 0
Same s t = (c : ℕ) → c < 2 ^ 16 → Has s c ↔ Has t c

pub record Given : Type 0 where
  pub number : ℕ
  pub choices : GivenFor

abbrev pub given : ℕ → GivenFor → Given
given n s = record { number = n; choices = s }

-- for which choices the book first gave a number
abbrev pub first_given : List Given → ℕ → Option GivenFor
first_given [] n = None
first_given (g ∷ gs) n = cond (g.number == n) (Some g.choices) (first_given gs n)

abbrev pub else_read : Option GivenFor → List Row → ℕ → GivenFor
else_read (Some s) rows n = s
else_read None rows n = read rows n

-- a part of a join counts with the choices for which the book first gave it, any other number with what reading it says
abbrev pub part : List Given → Book → ℕ → GivenFor
part before b n = else_read (first_given before n) b.rows n

-- the number that a call gives, if any; readings and refused calls give none
abbrev pub gives_number : List Given → Book → (call : Call) → Answer call → List Given
gives_number before b (question m ps gs work) (Ok p) = given p.0 (impossible m (ask ps gs)) ∷ []
gives_number before b (question m ps gs work) (Err fault) = []
gives_number before b (abstraction m ps gs work) (Ok p) = given p.0 (impossible m (ask (with_opposites m ps) gs)) ∷ []
gives_number before b (abstraction m ps gs work) (Err fault) = []
gives_number before b (join op x y) (Ok n) = given n (together_of op (part before b x) (part before b y)) ∷ []
gives_number before b (join op x y) (Err fault) = []
gives_number before b (reading n c) r = []

-- a question or an abstraction may bring any theory that shows the laws
abbrev pub Allowed : Call → Type 0
Allowed (question m ps gs work) = Lawful m
Allowed (abstraction m ps gs work) = Lawful m
Allowed (join op x y) = Unit {0}
Allowed (reading n c) = Unit {0}

abbrev pub at_opening : List Given
at_opening = given 0 none ∷ given 1 all ∷ []

-- a book after its opening and a list of calls, and the numbers it has given, the first one first
pub data Run : Book → List Given → Type 0 where
  opened : (slice : List Row) → Run (opening slice) at_opening
  called : {b : Book} {before : List Given} → Run b before → (call : Call) (r : Answer call) (b' : Book) → Allowed call → Serves b call r b'
      → Run b' (before ++ gives_number before b call r)

abbrev pub Begins : Book → Type 0
Begins b = Run b at_opening

-- every run up to the book before the call goes on to the book after it, with the number given
abbrev pub GoesOn : Book → (call : Call) → Answer call → Book → Type 0
GoesOn b call r b' = (before : List Given) → Run b before → Run b' (before ++ gives_number before b call r)
