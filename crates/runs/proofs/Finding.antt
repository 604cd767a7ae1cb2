-- The first equal number is that of the first answer with the same choices.
use Rattle.std.proofs.Common.{◌≡◌, ℕ, zero, suc, ◌<◌, ◌↔◌, List, [], ◌∷◌, map, length, get_or, Some, None, Option, IfSome, IfNone, sym, refl, ap, ◌∙◌, arith}
use mathlib.Core.List.{Memᴰ}
use Rattle.std.proofs.lemmas.List.{length-map, get_or-map}
use Rattle.diagrams.specs.Books.{Book}
use Rattle.book.specs.Runs.{Given, Same, Run}
use Rattle.runs.specs.Statements.{FirstSame}
use Rattle.runs.proofs.Telling.{equal_numbers_equal_choices}

one_of : (answers : List Given) (k : ℕ) (y : Given) → k < length answers → Memᴰ (get_or answers k y) answers
one_of [] k y lt = absurd (omega arith)
one_of (x ∷ xs) zero y lt = Memᴰ.head refl
one_of (x ∷ xs) (suc k) y lt = Memᴰ.tail (one_of xs k y (omega arith))

-- a place holds the number exactly when the answer there was given for the same choices
same_at : (numbers : List ℕ) (number : ℕ) (b : Book) (so_far : List Given) → Run b so_far → (answers : List Given) → ((x : Given) → Memᴰ x answers → Memᴰ x so_far)
    → map (λ x. x.number) answers ≡ numbers → (y : Given) → Memᴰ y so_far → y.number ≡ number
    → (k : ℕ) → k < length numbers → (get_or numbers k 0 ≡ number) ↔ Same (get_or answers k y).choices y.choices
same_at numbers number b so_far run answers given_too are y my is k lt =
    let less : k < length answers = omega (arith, lt, ap length are, length-map answers (λ x. x.number)) in
    let at : get_or numbers k 0 ≡ (get_or answers k y).number = ap (λ z. get_or z k 0) (sym are) ∙ get_or-map (λ (x : Given). x.number) answers k y 0 less in
    let equal = equal_numbers_equal_choices b so_far run (get_or answers k y) y (given_too _ (one_of answers k y less)) my in
    (λ e. equal.0 (sym at ∙ e ∙ sym is), λ s. at ∙ equal.1 s ∙ is)

pub first_same : (numbers : List ℕ) (number : ℕ) (place : Option ℕ) → IfSome place (λ i. i < length numbers)
    → IfSome place (λ i. (k : ℕ) → k < i → get_or numbers k 0 ≡ number → ⊥) → IfSome place (λ i. get_or numbers i 0 ≡ number)
    → IfNone place ((k : ℕ) → k < length numbers → get_or numbers k 0 ≡ number → ⊥) → FirstSame numbers number place
first_same numbers number None within before found none b so_far run answers given_too are y my is = λ k lt s. none k lt ((same_at numbers number b so_far run answers given_too are y my is k lt).1 s)
first_same numbers number (Some i) within before found none b so_far run answers given_too are y my is =
    let same = same_at numbers number b so_far run answers given_too are y my is in
    (λ k lt s. before k lt ((same k (omega (arith, lt, within))).1 s), (same i within).0 found)
