-- What holds of a book over any list of calls.
--
--   EqualNumbersEqualChoices     two numbers that a book has given are equal exactly when they were given for the same choices
--   GivenNumbersRead             a number goes on reading as the choices for which it was given
--   QuestionRefusedWhenFull      past its checks a question is refused exactly when its rows do not fit
--   JoinRefusedWhenFull          a join of held numbers is refused exactly when its rows do not fit
--   Alike                        two outcomes of a call differ in row numbers only
--   OnlyNumbersAreFree           any two outcomes that the rules allow for one call are alike
--   FirstSame                    a place is the first of some answers that was given for the same choices as another
use Rattle.std.specs.Prelude.{◌≡◌, ℕ, ◌^◌, ◌<◌, true, ◌↔◌, List, map, length, None, Ok, Err, Option, Result, MatchOption, slice_index_or}
use mathlib.Core.List.{Memᴰ}
use Rattle.theory.specs.Theory.{Meaning}
use Rattle.theory.specs.Rounds.{Question}
use Rattle.diagrams.specs.declared.Operation.{Operation}
use Rattle.diagrams.specs.Diagram.{RowOf, member}
use Rattle.diagrams.specs.Books.{Book, Held, Outnumber, union_or_intersection}
use Rattle.saturation.specs.Statements.{WorkingRow}
use Rattle.book.specs.declared.faults.QuestionFault.{QuestionFault}
use Rattle.book.specs.declared.faults.QuestionFault.TheVariants.{Full}
use Rattle.book.specs.declared.faults.BookFault.{BookFault}
use Rattle.book.specs.declared.faults.BookFault.TheVariants.{Full as NoRows}
use Rattle.book.specs.Questions.{Asked}
use Rattle.book.specs.Calls.{Joins}
use Rattle.book.specs.Runs.{Call, question, abstraction, join, reading, Answer, Serves, Same, Has, Given, Run}

abbrev pub EqualNumbersEqualChoices : Type 0
EqualNumbersEqualChoices = (b : Book) (so_far : List Given) → Run b so_far → (x y : Given) → Memᴰ x so_far → Memᴰ y so_far
    → (x.number ≡ y.number) ↔ Same x.choices y.choices

-- after any run, reading a number that the book has given says yes exactly to the choices that it was given for
abbrev pub GivenNumbersRead : Type 0
GivenNumbersRead = (b : Book) (so_far : List Given) → Run b so_far → (x : Given) → Memᴰ x so_far
    → Held b x.number × ((c : ℕ) → c < 2 ^ 16 → (member b.rows x.number c ≡ true) ↔ Has x.choices c)

abbrev pub QuestionRefusedWhenFull : Type 0
QuestionRefusedWhenFull = (m : Meaning) (q : Question) (b b' : Book) (r : Result (record { 0 : ℕ; 1 : ℕ }) QuestionFault) → Asked m q None b b' r
    → (r ≡ Err Full) ↔ Outnumber b (WorkingRow m q)

abbrev pub JoinRefusedWhenFull : Type 0
JoinRefusedWhenFull = (op : Operation) (x y : ℕ) (b b' : Book) (r : Result ℕ BookFault) → Held b x → Held b y → Joins op x y b r b'
    → (r ≡ Err NoRows) ↔ Outnumber b (RowOf (union_or_intersection op b.rows x y))

-- the same rounds, as many rows in use, and the same choices; or the same refusal and the same book
abbrev pub AlikeAnswers : Result (record { 0 : ℕ; 1 : ℕ }) QuestionFault → Book → Result (record { 0 : ℕ; 1 : ℕ }) QuestionFault → Book → Type 0
AlikeAnswers (Ok p) b₁ (Ok q) b₂ = (p.1 ≡ q.1) × (b₁.count ≡ b₂.count) × ((c : ℕ) → c < 2 ^ 16 → (member b₁.rows p.0 c ≡ true) ↔ (member b₂.rows q.0 c ≡ true))
AlikeAnswers (Ok p) b₁ (Err f) b₂ = ⊥
AlikeAnswers (Err e) b₁ (Ok q) b₂ = ⊥
AlikeAnswers (Err e) b₁ (Err f) b₂ = (e ≡ f) × (b₁ ≡ b₂)

abbrev pub AlikeJoins : Result ℕ BookFault → Book → Result ℕ BookFault → Book → Type 0
AlikeJoins (Ok n) b₁ (Ok k) b₂ = (b₁.count ≡ b₂.count) × ((c : ℕ) → c < 2 ^ 16 → member b₁.rows n c ≡ member b₂.rows k c)
AlikeJoins (Ok n) b₁ (Err f) b₂ = ⊥
AlikeJoins (Err e) b₁ (Ok k) b₂ = ⊥
AlikeJoins (Err e) b₁ (Err f) b₂ = (e ≡ f) × (b₁ ≡ b₂)

abbrev pub Alike : (call : Call) → Answer call → Book → Answer call → Book → Type 0
Alike (question m ps gs work) r b₁ s b₂ = AlikeAnswers r b₁ s b₂
Alike (abstraction m ps gs work) r b₁ s b₂ = AlikeAnswers r b₁ s b₂
Alike (join op x y) r b₁ s b₂ = AlikeJoins r b₁ s b₂
Alike (reading n c) r b₁ s b₂ = (r ≡ s) × (b₁ ≡ b₂)

abbrev pub OnlyNumbersAreFree : Type 0
OnlyNumbersAreFree = (b : Book) (call : Call) (r s : Answer call) (b₁ b₂ : Book) → Serves b call r b₁ → Serves b call s b₂ → Alike call r b₁ s b₂

-- where a book has given all of these numbers: `place` is that of the first answer with the same choices as the number's, or
-- none of them has them
abbrev pub FirstSame : List ℕ → ℕ → Option ℕ → Type 0
FirstSame numbers number place =
    (b : Book) (so_far : List Given) → Run b so_far → (answers : List Given) → ((x : Given) → Memᴰ x answers → Memᴰ x so_far) → map (λ x. x.number) answers ≡ numbers
    → (y : Given) → Memᴰ y so_far → y.number ≡ number
    → MatchOption place
    ((k : ℕ) → k < length numbers → Same (slice_index_or answers k y).choices y.choices → ⊥)
    (λ i. ((k : ℕ) → k < i → Same (slice_index_or answers k y).choices y.choices → ⊥) × Same (slice_index_or answers i y).choices y.choices)
