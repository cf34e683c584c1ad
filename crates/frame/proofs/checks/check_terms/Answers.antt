use Rattle.std.proofs.Common.{rules}
use Rattle.frame.proofs.Apart.{err_ok}
use Rattle.frame.proofs.Decides.{in_order, decided}
use Rattle.frame.proofs.checks.check_terms.Goals as goal

pub returns-in-Some-clause-decides : goal.returns-in-Some-clause-decides
returns-in-Some-clause-decides c = decided c.args.terms.now _ (search rules) (λ e. absurd (err_ok _ tt e))

pub returns-in-Some-first_weight-clause-decides : goal.returns-in-Some-first_weight-clause-decides
returns-in-Some-first_weight-clause-decides c = decided c.args.terms.now _ (search rules) (λ e. absurd (err_ok _ tt e))

pub returns-clause-decides : goal.returns-clause-decides
returns-clause-decides c = decided c.args.terms.now _ (search rules) (λ _. c.first_weight.ensures.words c.in_default-first_weight.is)

pub returns-in-Some-clause-order : goal.returns-in-Some-clause-order
returns-in-Some-clause-order c = in_order c.args.terms.now _ (search rules)

pub returns-in-Some-first_weight-clause-order : goal.returns-in-Some-first_weight-clause-order
returns-in-Some-first_weight-clause-order c = in_order c.args.terms.now _ (search rules)

pub returns-clause-order : goal.returns-clause-order
returns-clause-order c = in_order c.args.terms.now _ (search rules)
