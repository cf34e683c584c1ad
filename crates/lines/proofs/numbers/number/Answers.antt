use Rattle.std.proofs.Common.{arith}
use Rattle.std.proofs.lemmas.Grind.{common_steps}
use Rattle.lines.proofs.Digits.{is_number}
use Rattle.lines.proofs.numbers.number.Goals as goal

pub returns-in_default-clause-exact : goal.returns-in_default-clause-exact
returns-in_default-clause-exact c = is_number c.args.text.now c.digits_value.result (grind (arith, common_steps))

pub returns-in-empty-clause-exact : goal.returns-in-empty-clause-exact
returns-in-empty-clause-exact c = is_number c.args.text.now _ (grind (arith, common_steps))

pub returns-in-empty-2-clause-exact : goal.returns-in-empty-2-clause-exact
returns-in-empty-2-clause-exact c = is_number c.args.text.now _ (grind (arith, common_steps))
