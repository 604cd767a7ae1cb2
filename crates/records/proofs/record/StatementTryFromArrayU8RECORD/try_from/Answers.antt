use Rattle.std.proofs.Common.{◌≡◌, ℕ, List, take, drop, get_or, Ok, ℤ, sym, ◌∙◌, arith, to_z, of_z, w8}
use Rattle.std.proofs.lemmas.Grind.{common_steps}
use Rattle.records.specs.Records.{if_zeros, relation_of}
use Rattle.records.specs.declared.record.Relation.{Relation}
use Rattle.records.specs.declared.record.Statement.{Statement}
use Rattle.records.proofs.record.StatementTryFromArrayU8RECORD.try_from.Goals as goal

abbrev stated : Relation → ℕ → ℕ → ℤ → Statement
stated r left right z = record { relation = r; left = left; right = right; constant = z }

told : (r : Relation) (left right : ℕ) {bs bytes : List ℕ} {z constant : ℤ} → bs ≡ bytes → z ≡ constant → if_zeros bs (stated r left right z) ≡ if_zeros bytes (stated r left right constant)
told r left right same equal = λ i. if_zeros (same i) (stated r left right (equal i))

pub returns : goal.returns
returns c =
    let unused : take 3 (drop 5 c.args.bytes) ≡ drop 5 c.args.bytes = grind (arith, common_steps) in
    let relation : relation_of (get_or c.args.bytes 1 0) ≡ Ok c.in_ok-try_into.field-0 = sym c.try_into.ensures ∙ c.in_ok-try_into.was in
    let z_round : to_z w8 (of_z w8 c.read_signed.result) ≡ c.read_signed.result = grind (arith, common_steps) in
    rw relation (c.if_zeros.ensures ∙ told c.in_ok-try_into.field-0 (get_or c.args.bytes 2 0) (get_or c.args.bytes 3 0) unused (z_round ∙ c.read_signed.ensures))
