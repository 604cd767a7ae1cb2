-- The theory of equality over the terms of a table keeps the laws.
use Rattle.std.proofs.Common.{◌≡◌, length}
use Rattle.std.proofs.lemmas.List.{length-take-le}
use Rattle.theory.specs.Theory.{Lawful}
use Rattle.equality.specs.Equality.{Table, equality}
use Rattle.equality.proofs.Laws.{equality_is_lawful}
use Rattle.terms.specs.declared.table.TermTable.{TermTable}
use Rattle.terms.specs.Facts.{terms_of}

pub terms_many : (t : TermTable) → length (terms_of t) ≡ t.lent.count
terms_many t = length-take-le t.lent.count t.lent.rows.now t.within

pub terms_table : (t : TermTable) → Table (terms_of t)
terms_table t = t.table

pub terms_lawful : (t : TermTable) → Lawful (equality (terms_of t))
terms_lawful t = equality_is_lawful (terms_of t) (terms_table t)
