use Rattle.std.proofs.Common.{arith}
use Rattle.lines.proofs.Appends.{short_decimals, accepted_short}
use Rattle.lines.proofs.answers.put_accepted.Goals as goal

pub put_field-requires : goal.put_field-requires
put_field-requires c =
    omega (arith, c.requires, c.push_reserved.ensures.len, c.push_reserved.ensures.capacity, c.put.ensures.len, c.put.ensures.capacity, short_decimals 0 c.args.number (omega arith) (omega arith))

pub returns-clause-short : goal.returns-clause-short
returns-clause-short c = accepted_short c.args.kind c.args.number (omega arith)
