-- What each call on a book leads to, and which numbers a book has given for which choices after any list of calls.
-- An earlier wording, with the number of a refusal as an outcome; no contract names these definitions. Those that are proved
-- stand in specs/Runs.antt of the crate book and in Statements.antt.
--
--   Call          a question, an abstraction, a join of two numbers, or a reading
--   Outcome       a number and a round count, a number, yes or no, or the number of a refusal
--   Answered      a question gives the number of exactly the choices that derive the contradiction, and its round count
--   Asks          what a question leads to, by the first check that fails
--   Joined, Joins what a join leads to
--   Reads         what a reading leads to
--   Serves        what a call on a book leads to
--   GivenFor      what a number was given for, and Has: the choices of it
--   Given         a number with what it was given for
--   part          the choices with which a part of a join counts
--   gives_number  the number that a call gives, if any
--   Allowed       a question or an abstraction may bring any theory that shows the laws
--   Run           a book after its opening and a list of calls, with the numbers it has given
--   GoesOn        what a call leads to is a step of each run that the book has gone through
--   Alike         two outcomes differ in row numbers only
use Rattle.std.specs.Prelude.{◌≡◌, ℕ, ◌+◌, ◌^◌, ◌<◌, ◌≤◌, Bool, true, cond, ◌⊎◌, ◌↔◌, List, [], ◌∷◌, ◌++◌, length, Some, None, Option, ◌==◌}
use mathlib.Core.List.{Memᴰ}
use Rattle.theory.specs.Theory.{Meaning, Lawful}
use Rattle.theory.specs.Rounds.{Question, Derives, Impossible, RoundCount}
use Rattle.theory.specs.Abstraction.{ask, with_opposites, FullCase, Implies}
use Rattle.diagrams.specs.declared.Row.{Row}
use Rattle.diagrams.specs.declared.Operation.{Operation}
use Rattle.diagrams.specs.declared.Operation.TheVariants.{Union, Intersection}
use Rattle.diagrams.specs.Diagram.{RowOf, member}
use Rattle.diagrams.specs.Books.{Book, Held, Outnumber, Grows, RefusedFull, opening, union_or_intersection}
use Rattle.saturation.specs.Statements.{WorkingRow}
use Rattle.book.specs.declared.faults.QuestionFault.{QuestionFault}
use Rattle.book.specs.Questions.{first_fault, question_fault_number}

-- questions and abstractions name a theory, predicates, goals and the length of the work slice; joins two numbers; readings a number and a choice
pub data Call : Type 0 where
  question abstraction : Meaning → List ℕ → List ℕ → ℕ → Call
  join : Operation → ℕ → ℕ → Call
  reading : ℕ → ℕ → Call

pub data Outcome : Type 0 where
  -- a number and a round count
  answered : ℕ → ℕ → Outcome
  joined : ℕ → Outcome
  said : Bool → Outcome
  refused : ℕ → Outcome

-- a question that passes its checks gives a number to which exactly the choices that derive the contradiction belong, and the round count
pub record Answered (m : Meaning) (q : Question) (b b' : Book) (n k : ℕ) : Type 0 where
  pub grows : Grows b b' (WorkingRow m q)
  pub held : Held b' n
  pub belong : (c : ℕ) → c < 2 ^ 16 → (member b'.rows n c ≡ true) ↔ Derives m q c
  pub rounds : RoundCount m q k

abbrev pub Asks : Meaning → Question → Option QuestionFault → Book → Outcome → Book → Type 0
Asks m q check b (refused n) b' = ((fault : QuestionFault) × (check ≡ Some fault) × (n ≡ question_fault_number fault) × (b' ≡ b)) ⊎ ((check ≡ None) × (n ≡ 13) × RefusedFull b b' (WorkingRow m q))
Asks m q check b (answered n k) b' = (check ≡ None) × Answered m q b b' n k
Asks m q check b (joined n) b' = ⊥
Asks m q check b (said a) b' = ⊥

pub record Joined (op : Operation) (x y : ℕ) (b b' : Book) (n : ℕ) : Type 0 where
  pub holds_left : Held b x
  pub holds_right : Held b y
  pub grows : Grows b b' (RowOf (union_or_intersection op b.rows x y))
  pub held : Held b' n
  pub belong : (c : ℕ) → c < 2 ^ 16 → member b'.rows n c ≡ union_or_intersection op b.rows x y c

abbrev pub Joins : Operation → ℕ → ℕ → Book → Outcome → Book → Type 0
Joins op x y b (refused n) b' =
    ((n ≡ 14) × ((b.count + 2 ≤ x) ⊎ (b.count + 2 ≤ y)) × (b' ≡ b))
    ⊎ ((n ≡ 13) × Held b x × Held b y × RefusedFull b b' (RowOf (union_or_intersection op b.rows x y)))
Joins op x y b (joined n) b' = Joined op x y b b' n
Joins op x y b (answered n k) b' = ⊥
Joins op x y b (said a) b' = ⊥

abbrev pub Reads : ℕ → ℕ → Book → Outcome → Book → Type 0
Reads n c b (refused e) b' = (e ≡ 14) × (b.count + 2 ≤ n) × (b' ≡ b)
Reads n c b (said a) b' = Held b n × (a ≡ member b.rows n c) × (b' ≡ b)
Reads n c b (answered k e) b' = ⊥
Reads n c b (joined k) b' = ⊥

-- what a call on a book leads to
abbrev pub Serves : Book → Call → Outcome → Book → Type 0
Serves b (question m ps gs work) o b' = Asks m (ask ps gs) (first_fault m.facts 16 ps gs work) b o b'
Serves b (abstraction m ps gs work) o b' = Asks m (ask (with_opposites m ps) gs) (first_fault m.facts 8 ps gs work) b o b'
Serves b (join op x y) o b' = Joins op x y b o b'
Serves b (reading n c) o b' = Reads n c b o b'

-- what a number was given for
pub data GivenFor : Type 0 where
  none all : GivenFor
  impossible : Meaning → Question → GivenFor
  together_of : Operation → GivenFor → GivenFor → GivenFor
  -- what reading the number says, over these rows
  read : List Row → ℕ → GivenFor

abbrev pub Has : GivenFor → ℕ → Type 0
Has none c = ⊥
Has all c = Unit {0}
Has (impossible m q) c = Impossible m q c
Has (together_of Union s t) c = Has s c ⊎ Has t c
Has (together_of Intersection s t) c = Has s c × Has t c
Has (read rows n) c = member rows n c ≡ true

-- the same choices
abbrev pub Same : GivenFor → GivenFor → Type 0
Same s t = (c : ℕ) → c < 2 ^ 16 → Has s c ↔ Has t c

pub record Given : Type 0 where
  pub number : ℕ
  pub choices : GivenFor

abbrev pub given : ℕ → GivenFor → Given
given n s = record { number = n; choices = s }

-- for which choices the book first gave a number
abbrev pub first_given : List Given → ℕ → Option GivenFor
first_given [] n = None
first_given (g ∷ gs) n = cond (g.number == n) (Some g.choices) (first_given gs n)

abbrev pub else_read : Option GivenFor → List Row → ℕ → GivenFor
else_read (Some s) rows n = s
else_read None rows n = read rows n

-- the choices that a part of a join counts with, after these numbers were given
abbrev pub part : List Given → Book → ℕ → GivenFor
part before b n = else_read (first_given before n) b.rows n

-- the number that a call gives, if any; readings and refused calls give none
abbrev pub gives_number : List Given → Book → Call → Outcome → List Given
gives_number before b (question m ps gs work) (answered n k) = given n (impossible m (ask ps gs)) ∷ []
gives_number before b (question m ps gs work) (joined n) = []
gives_number before b (question m ps gs work) (said a) = []
gives_number before b (question m ps gs work) (refused e) = []
gives_number before b (abstraction m ps gs work) (answered n k) = given n (impossible m (ask (with_opposites m ps) gs)) ∷ []
gives_number before b (abstraction m ps gs work) (joined n) = []
gives_number before b (abstraction m ps gs work) (said a) = []
gives_number before b (abstraction m ps gs work) (refused e) = []
gives_number before b (join op x y) (answered n k) = []
gives_number before b (join op x y) (joined n) = given n (together_of op (part before b x) (part before b y)) ∷ []
gives_number before b (join op x y) (said a) = []
gives_number before b (join op x y) (refused e) = []
gives_number before b (reading n c) o = []

-- a question or an abstraction may bring any theory that shows the laws
abbrev pub Allowed : Call → Type 0
Allowed (question m ps gs work) = Lawful m
Allowed (abstraction m ps gs work) = Lawful m
Allowed (join op x y) = Unit {0}
Allowed (reading n c) = Unit {0}

-- a book after its opening and a list of calls, and the numbers it has given, the first one first
pub data Run : Book → List Given → Type 0 where
  opened : (slice : List Row) → Run (opening slice) (given 0 none ∷ given 1 all ∷ [])
  called : {b : Book} {before : List Given} → Run b before → (call : Call) (o : Outcome) (b' : Book) → Allowed call → Serves b call o b'
      → Run b' (before ++ gives_number before b call o)

-- two numbers that a book has given are equal exactly when they were given for the same choices
abbrev pub EqualNumbersEqualChoices : Type 0
EqualNumbersEqualChoices = (b : Book) (so_far : List Given) → Run b so_far → (x y : Given) → Memᴰ x so_far → Memᴰ y so_far
    → (x.number ≡ y.number) ↔ Same x.choices y.choices

-- a question that passes its other checks is refused exactly when its rows do not fit
abbrev pub RefusedExactlyWhenFull : Type 0
RefusedExactlyWhenFull = (m : Meaning) (q : Question) (b : Book) (o : Outcome) (b' : Book) → Asks m q None b o b' → (o ≡ refused 13) ↔ Outnumber b (WorkingRow m q)

-- after any run, reading a number that the book has given says yes exactly to the choices that it was given for
abbrev pub GivenNumbersRead : Type 0
GivenNumbersRead = (b : Book) (so_far : List Given) → Run b so_far → (x : Given) → Memᴰ x so_far
    → Held b x.number × ((c : ℕ) → c < 2 ^ 16 → (member b.rows x.number c ≡ true) ↔ Has x.choices c)

-- what a call leads to is a step of each run that the book has gone through
abbrev pub GoesOn : Book → Call → Outcome → Book → Type 0
GoesOn b call o b' = (before : List Given) → Run b before → Run b' (before ++ gives_number before b call o)

-- a join of held numbers is refused exactly when the rows of its result do not fit
abbrev pub JoinRefusedExactlyWhenFull : Type 0
JoinRefusedExactlyWhenFull = (op : Operation) (x y : ℕ) (b : Book) (o : Outcome) (b' : Book) → Held b x → Held b y → Joins op x y b o b'
    → (o ≡ refused 13) ↔ Outnumber b (RowOf (union_or_intersection op b.rows x y))

-- an answer has exactly the impossible choices
abbrev pub AnswersImpossible : Meaning → Question → Outcome → Book → Type 0
AnswersImpossible m q (answered n k) b' = (c : ℕ) → c < 2 ^ 16 → (member b'.rows n c ≡ true) ↔ Impossible m q c
AnswersImpossible m q (joined n) b' = Unit {0}
AnswersImpossible m q (said a) b' = Unit {0}
AnswersImpossible m q (refused e) b' = Unit {0}

-- the answer of an abstraction has a full case exactly when it implies the disjunction of the goals
abbrev pub AnswersFullCases : Meaning → List ℕ → List ℕ → Outcome → Book → Type 0
AnswersFullCases m ps gs (answered n k) b' = (c : ℕ) → c < 2 ^ 16 → FullCase (length ps) c → (member b'.rows n c ≡ true) ↔ Implies m ps gs c
AnswersFullCases m ps gs (joined n) b' = Unit {0}
AnswersFullCases m ps gs (said a) b' = Unit {0}
AnswersFullCases m ps gs (refused e) b' = Unit {0}

-- they follow from what the calls do
abbrev pub AnswersFollow : Type 0
AnswersFollow = (m : Meaning) (ps gs : List ℕ) (work : ℕ) (b : Book) (o : Outcome) (b' : Book) → Lawful m
    → (Serves b (question m ps gs work) o b' → AnswersImpossible m (ask ps gs) o b')
    × (Serves b (abstraction m ps gs work) o b' → AnswersFullCases m ps gs o b')

-- two outcomes of one call differ in row numbers only
abbrev pub Alike : Outcome → Book → Outcome → Book → Type 0
Alike (refused e) b₁ (refused f) b₂ = (e ≡ f) × (b₁ ≡ b₂)
Alike (refused e) b₁ (answered n k) b₂ = ⊥
Alike (refused e) b₁ (joined n) b₂ = ⊥
Alike (refused e) b₁ (said a) b₂ = ⊥
Alike (said a) b₁ (said e) b₂ = (a ≡ e) × (b₁ ≡ b₂)
Alike (said a) b₁ (answered n k) b₂ = ⊥
Alike (said a) b₁ (joined n) b₂ = ⊥
Alike (said a) b₁ (refused e) b₂ = ⊥
Alike (joined n) b₁ (joined i) b₂ = (b₁.count ≡ b₂.count) × ((c : ℕ) → c < 2 ^ 16 → member b₁.rows n c ≡ member b₂.rows i c)
Alike (joined n) b₁ (answered i k) b₂ = ⊥
Alike (joined n) b₁ (said a) b₂ = ⊥
Alike (joined n) b₁ (refused e) b₂ = ⊥
Alike (answered n k) b₁ (answered i j) b₂ = (k ≡ j) × (b₁.count ≡ b₂.count) × ((c : ℕ) → c < 2 ^ 16 → (member b₁.rows n c ≡ true) ↔ (member b₂.rows i c ≡ true))
Alike (answered n k) b₁ (joined i) b₂ = ⊥
Alike (answered n k) b₁ (said a) b₂ = ⊥
Alike (answered n k) b₁ (refused e) b₂ = ⊥

abbrev pub OnlyNumbersAreFree : Type 0
OnlyNumbersAreFree = (b : Book) (call : Call) (o₁ o₂ : Outcome) (b₁ b₂ : Book) → Serves b call o₁ b₁ → Serves b call o₂ b₂ → Alike o₁ b₁ o₂ b₂
