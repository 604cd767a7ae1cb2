-- What a record says: its eight bytes, read by their letters, or why they are refused.
--
--   then          go on with what was read, or pass the refusal on
--   zeros         every byte is zero
--   if_zeros      what was read, or a refusal where a byte that must be zero is not
--   signed        the number that eight bits are in two's complement
--   relation_of   the relation that a letter names
--   symbol_of     the symbol that two bytes name
--   term_of       a term: byte 1 its argument count, 2 and 3 its symbol, 4 and 5 its arguments
--   statement_of  a predicate or a goal: byte 1 its relation, 2 and 3 its sides, 4 its constant
--   theory_of     the theory of a question: byte 1 its letter, with D byte 2 the number of variables
--   eight_of      what eight bytes say, by the letter in byte 0
--   record_of     what the first eight bytes say; fewer are cut
use Rattle.std.specs.Prelude.{ℕ, ◌+◌, ◌-◌, ◌*◌, Bool, cond, List, length, take, drop, ℤ, pos, negsuc, Ok, Err, Result, ◌==◌, nat_lt, slice_index}
use Rattle.std.specs.List.{list_all}
use Rattle.records.specs.declared.faults.RecordFault.{RecordFault}
use Rattle.records.specs.declared.faults.RecordFault.TheVariants.{Cut, UnknownLetter, NotZero}
use Rattle.records.specs.declared.record.Relation.{Relation}
use Rattle.records.specs.declared.record.Relation.TheVariants.{Equal, Different, AtMost, Below}
use Rattle.records.specs.declared.record.TheoryName.{TheoryName}
use Rattle.records.specs.declared.record.TheoryName.TheVariants.{Terms, Differences}
use Rattle.records.specs.declared.record.Statement.{Statement}
use Rattle.records.specs.declared.record.Record.{Record}
use Rattle.records.specs.declared.record.Record.TheVariants.{Term, Predicate, Goal, Question, Abstraction}

abbrev pub then : {X Y E : Type 0} → Result X E → (X → Result Y E) → Result Y E
then (Ok x) f = f x
then (Err e) f = Err e

abbrev pub zeros : List ℕ → Bool
zeros = list_all (λ b. b == 0)

-- what was read, if the bytes that it does not use are zero
abbrev pub if_zeros : {X : Type 0} → List ℕ → X → Result X RecordFault
if_zeros unused x = cond (zeros unused) (Ok x) (Err NotZero)

abbrev pub signed : ℕ → ℤ
signed b = cond (nat_lt b 128) (pos b) (negsuc (255 - b))

-- '=', '!', 'L' and '<'
abbrev pub relation_of : ℕ → Result Relation RecordFault
relation_of b =
    cond (b == 61) (Ok Equal)
    (cond (b == 33) (Ok Different)
    (cond (b == 76) (Ok AtMost)
    (cond (b == 60) (Ok Below)
    (Err UnknownLetter))))

-- the high byte comes first
abbrev pub symbol_of : ℕ → ℕ → ℕ
symbol_of high low = high * 256 + low

abbrev pub term_of : List ℕ → Result Record RecordFault
term_of bs = if_zeros (drop 6 bs) (Term (slice_index bs 1) (symbol_of (slice_index bs 2) (slice_index bs 3)) (slice_index bs 4) (slice_index bs 5))

abbrev pub statement_of : List ℕ → Result Statement RecordFault
statement_of bs = then (relation_of (slice_index bs 1)) (λ r.
    if_zeros (drop 5 bs) (record { relation = r; left = slice_index bs 2; right = slice_index bs 3; constant = signed (slice_index bs 4) }))

-- 'U' for terms, 'D' for differences
abbrev pub theory_of : List ℕ → Result TheoryName RecordFault
theory_of bs =
    cond (slice_index bs 1 == 85) (if_zeros (drop 2 bs) Terms)
    (cond (slice_index bs 1 == 68) (if_zeros (drop 3 bs) (Differences (slice_index bs 2)))
    (Err UnknownLetter))

-- 'T', 'P', 'E', 'A' and 'W'
abbrev pub eight_of : List ℕ → Result Record RecordFault
eight_of bs =
    cond (slice_index bs 0 == 84) (term_of bs)
    (cond (slice_index bs 0 == 80) (then (statement_of bs) (λ s. Ok (Predicate s)))
    (cond (slice_index bs 0 == 69) (then (statement_of bs) (λ s. Ok (Goal s)))
    (cond (slice_index bs 0 == 65) (then (theory_of bs) (λ t. Ok (Question t)))
    (cond (slice_index bs 0 == 87) (then (theory_of bs) (λ t. Ok (Abstraction t)))
    (Err UnknownLetter)))))

abbrev pub record_of : List ℕ → Result Record RecordFault
record_of bs = cond (nat_lt (length bs) 8) (Err Cut) (eight_of (take 8 bs))
