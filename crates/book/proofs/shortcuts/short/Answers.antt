use Rattle.std.proofs.Common.{◌∙◌, ⊎_elim}
use Rattle.diagrams.proofs.Shortening.{short_same, left_neutral, right_neutral, left_absorbing, right_absorbing}
use Rattle.book.proofs.shortcuts.short.Goals as goal

pub returns-then-a-b : goal.returns-then-a-b
returns-then-a-b c =
    let op = c.args.op in
    let a = c.args.a in
    let b = c.args.b in
    ⊎_elim (short_same op a b) (⊎_elim (λ h. right_neutral op a b (h.1 ∙ c.neutral-neutral.ensures)) (λ h. left_absorbing op a b (h.2 ∙ c.absorbing-absorbing.ensures))) c.then-a-b.either

pub returns-then-a-neutral : goal.returns-then-a-neutral
returns-then-a-neutral c =
    let op = c.args.op in
    let a = c.args.a in
    let b = c.args.b in
    ⊎_elim (λ h. left_neutral op a b (h ∙ c.neutral-neutral.ensures)) (λ h. right_absorbing op a b (h.1 ∙ c.absorbing-absorbing.ensures)) c.then-a-neutral.either
