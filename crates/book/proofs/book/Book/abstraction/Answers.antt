use Rattle.std.proofs.Common.{length, ◌∙◌}
use Rattle.diagrams.specs.Books.{book_of}
use Rattle.book.proofs.Ending.{cases_implied}
use Rattle.book.proofs.Passing.{pairs_proper}
use Rattle.book.proofs.Stepping.{abstraction_goes_on}
use Rattle.book.proofs.book.Book.abstraction.Goals as goal

pub invariant_of-paired : goal.invariant_of-paired
invariant_of-paired g c =
    let i = c.args.inquiry.now in
    record { proper = pairs_proper g.T.Theory i.theory.now i.predicates.now i.goals.now (length c.args.work.now) c.in_ok-check.ensures (c.deref.ensures.0 ∙ c.with_opposites-pairs.ensures) }

pub returns-clause-implied : goal.returns-clause-implied
returns-clause-implied g c =
    let i = c.args.inquiry.now in
    let t = c.args.self.now.lent in
    let u = c.answer.new.self.lent in
    cases_implied g.T.Theory i.theory.now i.predicates.now i.goals.now (length c.args.work.now) (book_of t.rows.now t.count) (book_of u.rows.now u.count) c.answer.result c.in_ok-check.ensures (c.deref.ensures.0 ∙ c.with_opposites-pairs.ensures) c.answer.ensures.asked

pub returns-clause-continues : goal.returns-clause-continues
returns-clause-continues g c =
    let i = c.args.inquiry.now in
    let t = c.args.self.now.lent in
    let u = c.answer.new.self.lent in
    abstraction_goes_on g.T.Theory i.theory.now i.predicates.now i.goals.now (length c.args.work.now) (book_of t.rows.now t.count) (book_of u.rows.now u.count) c.answer.result c.in_ok-check.ensures (c.deref.ensures.0 ∙ c.with_opposites-pairs.ensures) c.answer.ensures.asked
