use Rattle.std.proofs.Common.{arith}
use Rattle.frame.specs.Refusals.{refusal_case}
use Rattle.lines.proofs.Appends.{short_decimals, refused_short}
use Rattle.lines.proofs.answers.put_refusal.Goals as goal

pub put_field-requires : goal.put_field-requires
put_field-requires c =
    omega (arith, c.requires, c.push_reserved.ensures.len, c.push_reserved.ensures.capacity, c.put.ensures.len, c.put.ensures.capacity, c.put-2.ensures.len, c.put-2.ensures.capacity, c.layer_name.ensures.short, short_decimals c.number.result 0 (omega arith) (omega arith))

pub put_field-requires-2 : goal.put_field-requires-2
put_field-requires-2 c =
    omega (arith, c.requires, c.push_reserved.ensures.len, c.push_reserved.ensures.capacity, c.put.ensures.len, c.put.ensures.capacity, c.put-2.ensures.len, c.put-2.ensures.capacity, c.put_field.ensures.len, c.put_field.ensures.capacity, c.layer_name.ensures.short, short_decimals c.number.result c.place.result (omega arith) (omega arith))

pub returns-clause-short : goal.returns-clause-short
returns-clause-short c = refused_short c.args.kind (refusal_case c.args.refusal) (omega (arith, c.number.ensures)) (omega (arith, c.place.ensures))
