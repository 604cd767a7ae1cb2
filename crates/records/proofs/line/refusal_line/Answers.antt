use Rattle.std.proofs.Common.{◌≡◌, ℕ, List, [], ◌++◌, codes, decimal, ap, ◌∙◌, append_assoc}
use Rattle.records.specs.Lines.{space, newline, line_of, refusal_text}
use Rattle.records.proofs.line.refusal_line.Goals as goal

grouped : (n p : List ℕ) → (((codes "refused " ++ n) ++ codes " at ") ++ p) ++ newline ≡ codes "refused" ++ space ++ n ++ space ++ codes "at" ++ space ++ p ++ newline
grouped n p = simp append_assoc

pub returns-clause-text : goal.returns-clause-text
returns-clause-text g c =
    let number : List ℕ = codes "refused " ++ decimal c.number.result in
    let place : List ℕ = decimal c.args.place in
    let one = c.with_bytes.ensures.text [] c.new.ensures in
    let two = c.with_number.ensures.text (codes "refused ") one in
    let three = c.with_bytes-2.ensures.text number two in
    let four = c.with_number-2.ensures.text (number ++ codes " at ") three in
    let five = c.with_bytes-3.ensures.text ((number ++ codes " at ") ++ place) four in
    five ∙ ap line_of (grouped (decimal c.number.result) place) ∙ ap (λ n. line_of (refusal_text n c.args.place)) c.number.ensures
