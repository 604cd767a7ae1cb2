use Rattle.std.proofs.Common.{length, arith}
use Rattle.theory.specs.Means.{meaning}
use Rattle.diagrams.specs.Books.{book_of}
use Rattle.book.proofs.Passing.{passed_proper}
use Rattle.book.proofs.Stepping.{question_goes_on}
use Rattle.book.proofs.book.Book.question.Goals as goal

pub invariant_of-checked : goal.invariant_of-checked
invariant_of-checked g c =
    let i = c.args.inquiry.now in
    record { proper = passed_proper (meaning g.T.Theory i.theory.now) 16 i.predicates.now i.goals.now (length c.args.work.now) (omega arith) c.in_ok-check.ensures }

pub returns-clause-continues : goal.returns-clause-continues
returns-clause-continues g c =
    let i = c.args.inquiry.now in
    let t = c.args.self.now.lent in
    let u = c.answer.new.self.lent in
    question_goes_on g.T.Theory i.theory.now i.predicates.now i.goals.now (length c.args.work.now) (book_of t.rows.now t.count) (book_of u.rows.now u.count) c.answer.result c.in_ok-check.ensures c.answer.ensures.asked
