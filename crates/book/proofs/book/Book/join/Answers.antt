use Rattle.std.proofs.Common.{Ok, Err, arith}
use Rattle.diagrams.specs.Diagram.{RowOf}
use Rattle.diagrams.specs.Books.{book_of, union_or_intersection}
use Rattle.book.specs.declared.faults.BookFault.TheVariants.{Full}
use Rattle.book.specs.Runs.{join}
use Rattle.book.proofs.Ending.{joined, given_back, refused}
use Rattle.book.proofs.Stepping.{goes_on}
use Rattle.book.proofs.book.Book.join.Goals as goal

pub invariant_of-self : goal.invariant_of-self
invariant_of-self c =
    record { kept = given_back c.join_sized.ensures.enlarged c.give_back.new.register c.args.self.now.kept c.give_back.ensures.cleared }

pub returns-in_default-clause-continues : goal.returns-in_default-clause-continues
returns-in_default-clause-continues c =
    let t = c.args.self.now.lent in
    let u = c.give_back.new.register in
    let s = union_or_intersection c.args.op t.rows.now c.args.left c.args.right in
    let full = refused c.join_sized.ensures.enlarged u c.args.self.now.kept c.give_back.ensures.cleared (RowOf s) c.in_default.ensures.applied in
    goes_on (book_of t.rows.now t.count) (join c.args.op c.args.left c.args.right) (Err Full) (book_of u.rows.now u.count) tt (omega arith, omega arith, full)

pub returns-clause-joins : goal.returns-clause-joins
returns-clause-joins c = joined c.join_sized.ensures.enlarged c.args.op c.args.left c.args.right c.in-Ok.number (omega arith) (omega arith) c.in-Ok.ensures.applied

pub returns-clause-continues : goal.returns-clause-continues
returns-clause-continues c =
    let t = c.args.self.now.lent in
    let u = c.join_sized.new.self.lent in
    goes_on (book_of t.rows.now t.count) (join c.args.op c.args.left c.args.right) (Ok c.in-Ok.number) (book_of u.rows.now u.count) tt (returns-clause-joins c)
