use Rattle.std.proofs.Common.{Ok, Err, refl, arith}
use Rattle.diagrams.specs.Books.{book_of}
use Rattle.diagrams.proofs.Canonical.{equal_sets_one_number}
use Rattle.book.specs.declared.faults.BookFault.TheVariants.{NotHeld}
use Rattle.book.specs.Runs.{reading}
use Rattle.book.proofs.Stepping.{goes_on}
use Rattle.book.proofs.book.Book.read.Goals as goal

pub follow-requires : goal.follow-requires
follow-requires c = grind arith

pub returns-then-not-holds : goal.returns-then-not-holds
returns-then-not-holds c =
    let b = book_of c.args.self.now.lent.rows.now c.args.self.now.lent.count in
    record {
      reads = (grind arith, refl);
      canonical = equal_sets_one_number _ _ c.args.self.now.kept.sound;
      continues = goes_on b (reading c.args.number c.args.choice) (Err NotHeld) b tt ((grind arith, refl), refl);
    }

pub returns : goal.returns
returns c =
    let b = book_of c.args.self.now.lent.rows.now c.args.self.now.lent.count in
    record {
      reads = (omega arith, c.follow.ensures);
      canonical = equal_sets_one_number _ _ c.args.self.now.kept.sound;
      continues = goes_on b (reading c.args.number c.args.choice) (Ok c.follow.result) b tt ((omega arith, c.follow.ensures), refl);
    }
