-- The rows in use of an array are its first ones: what a test of their number, a write behind them and a read give.
use Rattle.std.proofs.Common.{◌≡◌, ℕ, ◌+◌, ◌<◌, ◌≤◌, true, false, ltb, List, length, get_or, take, set, Some, None, Ok, Err, sym, ap, ◌∙◌, arith, rules}
use Rattle.std.specs.List.{slice_get}
use Rattle.std.proofs.lemmas.List.{length-take-le, length-take, take_more_set, get_or-take}
use Rattle.std.proofs.lemmas.Option.{slice_get-get_or, slice_get_past}
use Rattle.records.specs.declared.faults.RecordFault.{RecordFault}
use Rattle.records.specs.Pending.{with_one, if_room}

full : {X : Type 0} (xs : List X) (n : ℕ) → n ≡ length xs → ltb (length (take n xs)) (length xs) ≡ false
full xs n all = simp length-take (search rules)

room : {X : Type 0} (xs : List X) (n : ℕ) → n < length xs → ltb (length (take n xs)) (length xs) ≡ true
room xs n within = simp length-take (search rules)

pub refused_full : {X : Type 0} (f : RecordFault) (xs : List X) (n : ℕ) → n ≡ length xs → Err f ≡ if_room (length xs) f (take n xs)
refused_full f xs n all = simp (full xs n all)

pub kept_full : {X : Type 0} (xs : List X) (n : ℕ) (x : X) → n ≡ length xs → take n xs ≡ with_one (length xs) (take n xs) x
kept_full xs n x all = simp (full xs n all)

pub taken_room : {X : Type 0} (f : RecordFault) (xs : List X) (n : ℕ) → n < length xs → Ok tt ≡ if_room (length xs) f (take n xs)
taken_room f xs n within = simp (room xs n within)

pub added_room : {X : Type 0} (xs : List X) (n : ℕ) (x : X) → n < length xs → take (n + 1) (set xs n x) ≡ with_one (length xs) (take n xs) x
added_room xs n x within = simp (room xs n within) (take_more_set xs n x within)

pub read_used : {X : Type 0} (xs : List X) (n k : ℕ) (d : X) → n ≤ length xs → k < n → Some (get_or xs k d) ≡ slice_get (take n xs) k
read_used xs n k d within used =
    let here : k < length (take n xs) = omega (arith, length-take-le n xs within) in
    ap Some (sym (get_or-take n xs k d used)) ∙ sym (slice_get-get_or (take n xs) k d here)

pub read_unused : {X : Type 0} (xs : List X) (n k : ℕ) → n ≤ length xs → n ≤ k → None ≡ slice_get (take n xs) k
read_unused xs n k within past =
    let here : length (take n xs) ≤ k = omega (arith, length-take-le n xs within) in sym (slice_get_past (take n xs) k here)
