use Rattle.std.proofs.Common.{rules}
use Rattle.frame.specs.Parts.{terms_of}
use Rattle.rows.proofs.Beyond.{answer_in_order}
use Rattle.rows.proofs.ledgers.admit.Goals as goal

pub returns-in-Some-clause-order : goal.returns-in-Some-clause-order
returns-in-Some-clause-order c = answer_in_order c.args.width c.args.rows c.args.limit (terms_of c.args.frame.now) _ (search rules)

pub returns-in-None-clause-order : goal.returns-in-None-clause-order
returns-in-None-clause-order c = answer_in_order c.args.width c.args.rows c.args.limit (terms_of c.args.frame.now) _ (search rules)

pub returns-in-None-2-clause-order : goal.returns-in-None-2-clause-order
returns-in-None-2-clause-order c = answer_in_order c.args.width c.args.rows c.args.limit (terms_of c.args.frame.now) _ (search rules)
