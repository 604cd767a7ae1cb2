-- What opening leaves.
use Rattle.std.proofs.Common.{◌≡◌, ℕ, ◌<◌, ◌≤◌, List, ◌++◌, length, drop, replicate, sym, ◌∙◌, subst, ⊎_elim, arith, ext_get_or}
use Rattle.std.proofs.lemmas.Bool.{cases_lt}
use Rattle.std.proofs.lemmas.List.{places}
use Rattle.diagrams.specs.declared.Row.{Row}
use Rattle.diagrams.specs.Diagram.{Sound, blank, row_at}
use Rattle.diagrams.specs.Books.{opening, capacity}
use Rattle.diagrams.specs.Books.{KeptBook}
use Rattle.register.specs.Rows.{Cleared}
use Rattle.diagrams.proofs.Kept.{sound_opening}

low : (n : ℕ) (slice : List Row) (r : ℕ) → n ≤ length slice → r < n → row_at (replicate n blank ++ drop n slice) r ≡ blank
low n slice r le lt = grind (arith, places)

high : (n : ℕ) (slice : List Row) (r : ℕ) → n ≤ length slice → n ≤ r → r < length slice → row_at (replicate n blank ++ drop n slice) r ≡ row_at slice r
high n slice r le lo lt = grind (arith, places)

whole : (n : ℕ) (slice : List Row) → n ≤ length slice → length (replicate n blank ++ drop n slice) ≡ length slice
whole n slice le = grind (arith, places)

pub opening_is : (slice rows : List Row) → Cleared slice 0 65534 blank rows → rows ≡ (opening slice).rows
opening_is slice rows c =
    ext_get_or blank rows (opening slice).rows (c.long ∙ sym (whole (capacity slice) slice (omega arith)))
    (λ r lt. ⊎_elim (λ below. c.zeroed r blank (omega arith) (omega (arith, below)) (omega (arith, lt, c.long)) ∙ sym (low (capacity slice) slice r (omega arith) below))
    (λ above. c.behind r blank (omega (arith, above, lt, c.long)) ∙ sym (high (capacity slice) slice r (omega arith) above (omega (arith, lt, c.long)))) (cases_lt r (capacity slice)))

pub kept_opening : (slice rows : List Row) → Cleared slice 0 65534 blank rows → KeptBook rows 0
kept_opening slice rows c = record {
  sound = subst (λ z. Sound z 0) (sym (opening_is slice rows c)) (sound_opening slice);
  zero_behind = λ r lo hi. c.zeroed r blank lo (omega (arith, hi)) (omega (arith, hi, c.long));
}
