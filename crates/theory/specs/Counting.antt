-- How many things there are of a kind, each counted once.
--
--   Apart      no thing stands twice in a list
--   Counts     exactly so many things are of the kind
--   MoreThan   more than so many are
use Rattle.std.specs.Prelude.{◌≡◌, ℕ, ◌<◌, ◌↔◌, List, [], ◌∷◌, length}
use mathlib.Core.List.{Memᴰ}

-- no thing stands twice in the list
abbrev pub Apart : {A : Type 0} → List A → Type 0
Apart [] = Unit {0}
Apart (x ∷ xs) = (Memᴰ x xs → ⊥) × Apart xs

-- there are n things of which P holds: a list without repetition names exactly them
abbrev pub Counts : {A : Type 0} → (A → Type 0) → ℕ → Type 0
Counts {A} P n = (xs : List A) × Apart xs × ((x : A) → Memᴰ x xs ↔ P x) × (length xs ≡ n)

-- there are more than n things of which P holds: a list without repetition names so many of them
abbrev pub MoreThan : {A : Type 0} → ℕ → (A → Type 0) → Type 0
MoreThan {A} n P = (xs : List A) × Apart xs × ((x : A) → Memᴰ x xs → P x) × (n < length xs)
