use Rattle.std.proofs.Common.{rules, Ok, Err}
use Rattle.field.specs.LawsForAll.{lawful}
use Rattle.receiver.specs.Blocks.{contents}
use Rattle.frame.specs.declared.refusals.Refusal.TheVariants.{MinuteBeyondWidth, NoCode}
use Rattle.rows.specs.Ledgers.{row_of}
use Rattle.receiver.proofs.Ordered.{take_ordered}
use Rattle.receiver.proofs.Keeping.{take_keeps}
use Rattle.receiver.proofs.blocks.Block.take.Goals as goal

pub returns-in-Some-clause-order : goal.returns-in-Some-clause-order
returns-in-Some-clause-order g c = take_ordered g.F.Field.ops (contents c.args.self.now) (row_of c.args.frame.now) _ (search rules)

pub returns-in-Some-first_no_code-clause-order : goal.returns-in-Some-first_no_code-clause-order
returns-in-Some-first_no_code-clause-order g c = take_ordered g.F.Field.ops (contents c.args.self.now) (row_of c.args.frame.now) _ (search rules)

pub returns-in_err-row-clause-order : goal.returns-in_err-row-clause-order
returns-in_err-row-clause-order g c = take_ordered g.F.Field.ops (contents c.args.self.now) (row_of c.args.frame.now) _ (search rules)

pub returns-clause-order : goal.returns-clause-order
returns-clause-order g c = take_ordered g.F.Field.ops (contents c.args.self.now) (row_of c.args.frame.now) _ (search rules)

pub returns-in_err-undisputed-clause-law : goal.returns-in_err-undisputed-clause-law
returns-in_err-undisputed-clause-law g c = take_keeps (lawful g.F.Field.ops g.met.F.Field.laws) (contents c.args.self.now) c.args.self.now.stands _ (row_of c.args.frame.now) c.from_residual.result (search rules) (search rules)

pub returns-in-Some-clause-law : goal.returns-in-Some-clause-law
returns-in-Some-clause-law g c = take_keeps (lawful g.F.Field.ops g.met.F.Field.laws) (contents c.args.self.now) c.args.self.now.stands _ (row_of c.args.frame.now) (Err (MinuteBeyondWidth c.in-Some.term)) (search rules) (search rules)

pub returns-in-Some-first_no_code-clause-law : goal.returns-in-Some-first_no_code-clause-law
returns-in-Some-first_no_code-clause-law g c = take_keeps (lawful g.F.Field.ops g.met.F.Field.laws) (contents c.args.self.now) c.args.self.now.stands _ (row_of c.args.frame.now) (Err (NoCode c.in-Some-first_no_code.term)) (search rules) (search rules)

pub returns-in_err-row-clause-law : goal.returns-in_err-row-clause-law
returns-in_err-row-clause-law g c = take_keeps (lawful g.F.Field.ops g.met.F.Field.laws) (contents c.args.self.now) c.args.self.now.stands _ (row_of c.args.frame.now) c.from_residual-in_err-row.result (search rules) (search rules)

pub returns-clause-law : goal.returns-clause-law
returns-clause-law g c = take_keeps (lawful g.F.Field.ops g.met.F.Field.laws) (contents c.args.self.now) c.args.self.now.stands _ (row_of c.args.frame.now) (Ok c.in_ok-row.row) (search rules) (search rules)
