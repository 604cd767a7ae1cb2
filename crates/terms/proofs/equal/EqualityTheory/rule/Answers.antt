use Rattle.std.proofs.Common.{sym, ◌∙◌, arith}
use Rattle.terms.specs.Facts.{terms_of}
use Rattle.terms.proofs.Meaning.{terms_many}
use Rattle.terms.proofs.Reading.{same_read, turned_read, chained_read, applied_read, clashing_read, none_read}
use Rattle.terms.proofs.equal.EqualityTheory.rule.Goals as goal

pub returns-then-place-turns : goal.returns-then-place-turns
returns-then-place-turns c =
    let t = c.args.self.now.table.now in
    same_read (terms_of t) c.args.place _ (c.numbering-numbering.ensures ∙ sym (terms_many t)) _ c.same.ensures (omega arith)

pub returns-then-place-chains : goal.returns-then-place-chains
returns-then-place-chains c =
    let t = c.args.self.now.table.now in
    let p = c.pair-i in
    turned_read (terms_of t) c.args.place _ (c.numbering-numbering.ensures ∙ sym (terms_many t)) _ _ _ _ p.ensures.first p.ensures.second c.turned.ensures (omega arith) (omega arith)

pub returns-then-place-applications : goal.returns-then-place-applications
returns-then-place-applications c =
    let t = c.args.self.now.table.now in
    let p = c.triple-i in
    chained_read (terms_of t) c.args.place _ (c.numbering-numbering.ensures ∙ sym (terms_many t)) _ _ _ _ _ p.ensures.first p.ensures.second p.ensures.third c.chained.ensures (omega arith) (omega arith)

pub returns-then-place-clashes : goal.returns-then-place-clashes
returns-then-place-clashes c =
    let t = c.args.self.now.table.now in
    let p = c.pair-i-then-place-clashes in
    c.applied.ensures
    ∙ applied_read (terms_of t) c.args.place _ (c.numbering-numbering.ensures ∙ sym (terms_many t)) _ _ _ p.ensures.first p.ensures.second (omega arith) (omega arith)

pub returns-else-place-clashes-2 : goal.returns-else-place-clashes-2
returns-else-place-clashes-2 c =
    let t = c.args.self.now.table.now in
    none_read (terms_of t) c.args.place _ (c.numbering-numbering.ensures ∙ sym (terms_many t)) (omega arith)

pub returns-then-place-clashes-2 : goal.returns-then-place-clashes-2
returns-then-place-clashes-2 c =
    let t = c.args.self.now.table.now in
    let p = c.pair-i-then-place-clashes-2 in
    clashing_read (terms_of t) c.args.place _ (c.numbering-numbering.ensures ∙ sym (terms_many t)) _ _ _ _ p.ensures.first p.ensures.second c.clashing.ensures (omega arith) (omega arith)
