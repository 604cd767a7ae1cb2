use Rattle.std.proofs.Common.{nat_lt, ◌∙◌, rules, tests}
use Rattle.std.proofs.lemmas.Iterator.{YieldsList-from_slice}
use Rattle.std.proofs.lemmas.Iterator.Search.{all_from_yields_List}
use Rattle.book.proofs.Passing.{facts_all}
use Rattle.book.proofs.inquiry.are_facts.Goals as goal

pub returns : goal.returns
returns c = all_from_yields_List (λ x. nat_lt x c.args.facts) _ _ _ c.all.ensures.ran (YieldsList-from_slice c.args.numbers.now cc) (λ x b q k. search (rules, tests)) ∙ facts_all c.args.facts c.args.numbers.now
