use Rattle.terms.proofs.Meaning.{terms_lawful}
use Rattle.terms.proofs.equal.Equality.new.Goals as goal

pub returns-clause-lawful : goal.returns-clause-lawful
returns-clause-lawful c = terms_lawful c.args.table.now
