use Rattle.theory.specs.Abstraction.{ask}
use Rattle.book.proofs.Ending.{answered, given_back}
use Rattle.book.proofs.book.Book.answer.Goals as goal

pub returns-clause-asked : goal.returns-clause-asked
returns-clause-asked g c =
    let i = c.args.inquiry.now in
    answered c.sized.ensures.enlarged g.T.Theory i.theory.now (ask i.predicates.now i.goals.now) c.in-Ok.pair.0 c.in-Ok.pair.1 i.proper c.in-Ok.ensures.saturates

pub invariant_of-self : goal.invariant_of-self
invariant_of-self g c =
    record { kept = given_back c.sized.ensures.enlarged c.give_back.new.register c.args.self.now.kept c.give_back.ensures.cleared }
