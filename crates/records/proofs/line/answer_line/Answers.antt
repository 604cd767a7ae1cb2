use Rattle.std.proofs.Common.{◌≡◌, ℕ, List, [], ◌++◌, decimal, ap, ◌∙◌, append_assoc}
use Rattle.records.specs.Lines.{space, newline, line_of}
use Rattle.records.proofs.line.answer_line.Goals as goal

grouped : (o n f : List ℕ) → ((((o ++ space) ++ n) ++ space) ++ f) ++ newline ≡ o ++ space ++ n ++ space ++ f ++ newline
grouped o n f = simp append_assoc

pub returns-clause-text : goal.returns-clause-text
returns-clause-text c =
    let ordinal : List ℕ = decimal c.args.ordinal in
    let count : List ℕ = decimal c.args.count in
    let first : List ℕ = decimal c.args.first in
    let one = c.with_number.ensures.text [] c.new.ensures in
    let two = c.with_bytes.ensures.text ordinal one in
    let three = c.with_number-2.ensures.text (ordinal ++ space) two in
    let four = c.with_bytes-2.ensures.text ((ordinal ++ space) ++ count) three in
    let five = c.with_number-3.ensures.text (((ordinal ++ space) ++ count) ++ space) four in
    let six = c.with_bytes-3.ensures.text ((((ordinal ++ space) ++ count) ++ space) ++ first) five in
    six ∙ ap line_of (grouped ordinal count first)
