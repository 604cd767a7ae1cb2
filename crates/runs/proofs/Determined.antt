-- What a call leads to is determined but for row numbers, and it is refused for want of rows exactly when they do not fit.
use Rattle.std.proofs.Common.{◌≡◌, ℕ, ◌+◌, ◌≤◌, Bool, ◌⊎◌, get_or, Some, None, Ok, Err, Option, Result, sym, refl, ap, ◌∙◌, ⊎_elim, arith, ext_get_or}
use mathlib.Core.Logic.Iff
use Rattle.std.proofs.lemmas.Bool.{cases_lt}
use Rattle.theory.specs.Theory.{Meaning}
use Rattle.theory.specs.Rounds.{Question, RoundCount}
use Rattle.theory.specs.Abstraction.{ask, with_opposites}
use Rattle.diagrams.specs.declared.Operation.{Operation}
use Rattle.diagrams.specs.Diagram.{Part, blank}
use Rattle.diagrams.specs.Books.{Book, Held, Wanted, Outnumber, Grows, RefusedFull, capacity}
use Rattle.diagrams.proofs.Counted.{counts_unique, more_counts}
use Rattle.book.specs.declared.faults.QuestionFault.{QuestionFault}
use Rattle.book.specs.declared.faults.BookFault.{BookFault}
use Rattle.book.specs.declared.faults.BookFault.TheVariants.{Full, NotHeld}
use Rattle.book.specs.Questions.{first_fault, Asked}
use Rattle.book.specs.Calls.{Joins, Reads}
use Rattle.book.specs.Runs.{question, abstraction, join, reading}
use Rattle.runs.specs.Statements.{QuestionRefusedWhenFull, JoinRefusedWhenFull, AlikeAnswers, AlikeJoins, OnlyNumbersAreFree}
use Rattle.runs.proofs.Telling.{ok_not_err}

-- what was served did not outnumber the rows
served_fits : (b b' : Book) (W : Part → Type 0) → Grows b b' W → Outnumber b W → ⊥
served_fits b b' W grows out = omega (arith, grows.fits, more_counts (Wanted b W) b'.count (capacity b.rows) grows.counted out)

pub question_refused_when_full : QuestionRefusedWhenFull
question_refused_when_full m q b b' (Ok p) s = (λ e. absurd (ok_not_err p _ e), λ out. absurd (served_fits b b' _ s.grows out))
question_refused_when_full m q b b' (Err fault) s = (λ _. s.1.too_many, λ _. ap Err s.0)

not_held : (b : Book) (x y : ℕ) → Held b x → Held b y → (b.count + 2 ≤ x) ⊎ (b.count + 2 ≤ y) → ⊥
not_held b x y hx hy = ⊎_elim (λ le. omega (arith, le, hx)) (λ le. omega (arith, le, hy))

pub join_refused_when_full : JoinRefusedWhenFull
join_refused_when_full op x y b b' (Ok n) hx hy s = (λ e. absurd (ok_not_err n _ e), λ out. absurd (served_fits b b' _ s.grows out))
join_refused_when_full op x y b b' (Err Full) hx hy s = (λ _. s.2.too_many, λ _. refl)
join_refused_when_full op x y b b' (Err NotHeld) hx hy s = absurd (not_held b x y hx hy s.0)

-- two refusals for want of rows leave the same book
full_same : (b b₁ b₂ : Book) (W : Part → Type 0) → RefusedFull b b₁ W → RefusedFull b b₂ W → b₁ ≡ b₂
full_same b b₁ b₂ W f g =
    let e : b₁.rows ≡ b₂.rows = ext_get_or blank b₁.rows b₂.rows (f.keeps.long ∙ sym g.keeps.long) (λ i lt. at i) in
    let c : b₁.count ≡ b₂.count = f.as_before ∙ sym g.as_before in
    λ i. record { rows = e i; count = c i }
  where
    at : (i : ℕ) → get_or b₁.rows i blank ≡ get_or b₂.rows i blank
    at i =
        ⊎_elim (λ lt. f.keeps.stay i lt ∙ sym (g.keeps.stay i lt))
        (λ le. ⊎_elim (λ lt. f.keeps.zero_behind i (omega (arith, le, f.as_before)) lt ∙ sym (g.keeps.zero_behind i (omega (arith, le, g.as_before)) lt)) (λ ge. f.keeps.untouched i ge ∙ sym (g.keeps.untouched i ge)) (cases_lt i (capacity b.rows)))
        (cases_lt i b.count)

rounds_same : (m : Meaning) (q : Question) (k j : ℕ) → RoundCount m q k → RoundCount m q j → k ≡ j
rounds_same m q k j r s = omega (arith, s.most r.reached.0 k r.reached.1 r.reached.2, r.most s.reached.0 j s.reached.1 s.reached.2)

fault_of : {A E : Type 0} → E → Result A E → E
fault_of other (Ok x) = other
fault_of other (Err e) = e

one_fault : {A E : Type 0} (e f : E) → ◌≡◌ {A = Result A E} (Err e) (Err f) → e ≡ f
unfolding fault_of
one_fault e f is = ap (fault_of e) is

asks_alike : (m : Meaning) (q : Question) (check : Option QuestionFault) (b : Book) (r s : Result (record { 0 : ℕ; 1 : ℕ }) QuestionFault) (b₁ b₂ : Book)
    → Asked m q check b b₁ r → Asked m q check b b₂ s → AlikeAnswers r b₁ s b₂
asks_alike m q (Some fault) b (Ok p) s b₁ b₂ h k = absurd (ok_not_err p fault h.0)
asks_alike m q (Some fault) b (Err e) (Ok p) b₁ b₂ h k = absurd (ok_not_err p fault k.0)
asks_alike m q (Some fault) b (Err e) (Err f) b₁ b₂ h k = (one_fault e f (h.0 ∙ sym k.0), h.1 ∙ sym k.1)
asks_alike m q None b (Ok p) (Ok o) b₁ b₂ h k = (
  rounds_same m q p.1 o.1 h.rounds k.rounds,
  counts_unique _ b₁.count b₂.count h.grows.counted k.grows.counted,
  λ c lt. Iff.trans (h.belong c lt) (Iff.symm (k.belong c lt)),
)
asks_alike m q None b (Ok p) (Err f) b₁ b₂ h k = absurd (served_fits b b₁ _ h.grows k.1.too_many)
asks_alike m q None b (Err e) (Ok o) b₁ b₂ h k = absurd (served_fits b b₂ _ k.grows h.1.too_many)
asks_alike m q None b (Err e) (Err f) b₁ b₂ h k = (h.0 ∙ sym k.0, full_same b b₁ b₂ _ h.1 k.1)

joins_alike : (op : Operation) (x y : ℕ) (b : Book) (r s : Result ℕ BookFault) (b₁ b₂ : Book) → Joins op x y b r b₁ → Joins op x y b s b₂ → AlikeJoins r b₁ s b₂
joins_alike op x y b (Ok n) (Ok k) b₁ b₂ h i = (counts_unique _ b₁.count b₂.count h.grows.counted i.grows.counted, λ c lt. h.belong c ∙ sym (i.belong c))
joins_alike op x y b (Ok n) (Err Full) b₁ b₂ h i = absurd (served_fits b b₁ _ h.grows i.2.too_many)
joins_alike op x y b (Ok n) (Err NotHeld) b₁ b₂ h i = absurd (not_held b x y h.holds_left h.holds_right i.0)
joins_alike op x y b (Err Full) (Ok k) b₁ b₂ h i = absurd (served_fits b b₂ _ i.grows h.2.too_many)
joins_alike op x y b (Err Full) (Err Full) b₁ b₂ h i = (refl, full_same b b₁ b₂ _ h.2 i.2)
joins_alike op x y b (Err Full) (Err NotHeld) b₁ b₂ h i = absurd (not_held b x y h.0 h.1 i.0)
joins_alike op x y b (Err NotHeld) (Ok k) b₁ b₂ h i = absurd (not_held b x y i.holds_left i.holds_right h.0)
joins_alike op x y b (Err NotHeld) (Err Full) b₁ b₂ h i = absurd (not_held b x y i.0 i.1 h.0)
joins_alike op x y b (Err NotHeld) (Err NotHeld) b₁ b₂ h i = (refl, h.1 ∙ sym i.1)

reads_alike : (n c : ℕ) (b : Book) (r s : Result Bool BookFault) → Reads b.rows b.count n c r → Reads b.rows b.count n c s → r ≡ s
reads_alike n c b (Ok x) (Ok y) h k = ap Ok (h.1 ∙ sym k.1)
reads_alike n c b (Ok x) (Err f) h k = absurd (omega (arith, h.0, k.0))
reads_alike n c b (Err e) (Ok y) h k = absurd (omega (arith, h.0, k.0))
reads_alike n c b (Err e) (Err f) h k = ap Err (h.1 ∙ sym k.1)

pub only_numbers_are_free : OnlyNumbersAreFree
only_numbers_are_free b (question m ps gs work) r s b₁ b₂ h k = asks_alike m (ask ps gs) (first_fault m.facts 16 ps gs work) b r s b₁ b₂ h k
only_numbers_are_free b (abstraction m ps gs work) r s b₁ b₂ h k = asks_alike m (ask (with_opposites m ps) gs) (first_fault m.facts 8 ps gs work) b r s b₁ b₂ h k
only_numbers_are_free b (join op x y) r s b₁ b₂ h k = joins_alike op x y b r s b₁ b₂ h k
only_numbers_are_free b (reading n c) r s b₁ b₂ h k = (reads_alike n c b r s h.0 k.0, h.1 ∙ sym k.1)
