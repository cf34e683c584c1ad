use Rattle.std.proofs.Common.{rules}
use Rattle.receiver.specs.Blocks.{contents}
use Rattle.disputes.proofs.Moves.{returned, strike_refused}
use Rattle.disputes.proofs.clients.strike_now.Goals as goal

pub returns-clause-answer : goal.returns-clause-answer
returns-clause-answer g c =
    let b = contents c.args.block.now in
    strike_refused b c.in_ok-slip.slip.name (search rules) c.args.row _ (search rules)

pub returns-clause-contents : goal.returns-clause-contents
returns-clause-contents g c = returned (contents c.args.block.now) c.in_ok-slip.slip.name (search rules) _ c.give_back-returned.result (search rules) (search rules)
