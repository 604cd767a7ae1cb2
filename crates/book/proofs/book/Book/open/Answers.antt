use Rattle.std.proofs.Common.{◌≡◌, sym, subst, ap₂}
use Rattle.diagrams.specs.Books.{book_of, opening, KeptBook}
use Rattle.diagrams.proofs.Clearing.{opening_is, kept_opening}
use Rattle.book.proofs.Stepping.{begun}
use Rattle.book.proofs.book.Book.open.Goals as goal

pub invariant_of-result : goal.invariant_of-result
invariant_of-result c =
    let r = c.cleared-lent.result in
    record { kept = subst (KeptBook r.rows.now) (sym c.cleared-lent.ensures.none) (kept_opening c.args.rows.now r.rows.now c.cleared-lent.ensures.cleared) }

pub returns : goal.returns
returns c =
    let r = c.cleared-lent.result in
    let opened : book_of r.rows.now r.count ≡ opening c.args.rows.now = ap₂ book_of (opening_is c.args.rows.now r.rows.now c.cleared-lent.ensures.cleared) c.cleared-lent.ensures.none in
    record { held = c.cleared-lent.ensures.held; opened = opened; begins = begun c.args.rows.now (book_of r.rows.now r.count) opened }
