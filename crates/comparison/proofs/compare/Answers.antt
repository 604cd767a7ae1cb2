use Rattle.book.proofs.Failing.{failed}
use Rattle.comparison.proofs.Comparing.{goes_leads, leads_on, compared}
use Rattle.comparison.proofs.compare.Goals as goal

pub returns-in_err-two-clause-compared : goal.returns-in_err-two-clause-compared
returns-in_err-two-clause-compared g c =
    failed _ c.from_residual-in_err-two.ensures.0 _ _
    (leads_on c.in_ok-one.ensures.continues (goes_leads c.in_err-two.ensures.continues))

pub returns-in_err-three-clause-compared : goal.returns-in_err-three-clause-compared
returns-in_err-three-clause-compared g c =
    failed _ c.from_residual-in_err-three.ensures.0 _ _
    (leads_on c.in_ok-one.ensures.continues (leads_on c.in_ok-two.ensures.continues (leads_on c.question-3.ensures.continues (goes_leads c.in_err-three.ensures.continues))))

pub returns-in_err-cases-clause-compared : goal.returns-in_err-cases-clause-compared
returns-in_err-cases-clause-compared g c =
    failed _ c.from_residual-in_err-cases.ensures.0 _ _
    (leads_on c.in_ok-one.ensures.continues (leads_on c.in_ok-two.ensures.continues (leads_on c.question-3.ensures.continues (leads_on c.in_ok-three.ensures.continues (goes_leads c.in_err-cases.ensures.continues)))))

pub returns-in_err-union-clause-compared : goal.returns-in_err-union-clause-compared
returns-in_err-union-clause-compared g c =
    failed _ c.from_residual-in_err-union.ensures.0 _ _
    (leads_on c.in_ok-one.ensures.continues (leads_on c.in_ok-two.ensures.continues (leads_on c.question-3.ensures.continues (leads_on c.in_ok-three.ensures.continues (leads_on c.in_ok-cases.ensures.continues (goes_leads c.in_err-union.ensures.continues))))))

pub returns-in_err-intersection-clause-compared : goal.returns-in_err-intersection-clause-compared
returns-in_err-intersection-clause-compared g c =
    failed _ c.from_residual-in_err-intersection.ensures.0 _ _
    (leads_on c.in_ok-one.ensures.continues (leads_on c.in_ok-two.ensures.continues (leads_on c.question-3.ensures.continues (leads_on c.in_ok-three.ensures.continues (leads_on c.in_ok-cases.ensures.continues (leads_on c.in_ok-union.ensures.continues (goes_leads c.in_err-intersection.ensures.continues)))))))

pub returns-clause-compared : goal.returns-clause-compared
returns-clause-compared g c =
    compared c.in_ok-one.ensures.continues c.in_ok-two.ensures.continues (goes_leads c.question-3.ensures.continues)
    c.in_ok-three.ensures.continues c.in_ok-cases.ensures.continues c.in_ok-union.ensures.continues c.in_ok-intersection.ensures.continues
