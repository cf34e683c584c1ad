use Rattle.std.proofs.Common.{rules, Ok}
use Rattle.field.specs.LawsForAll.{lawful}
use Rattle.receiver.specs.Blocks.{contents}
use Rattle.receiver.proofs.Keeping.{clear_keeps}
use Rattle.receiver.proofs.blocks.Block.clear.Goals as goal

pub returns-in_err-undisputed-clause-law : goal.returns-in_err-undisputed-clause-law
returns-in_err-undisputed-clause-law g c = clear_keeps (lawful g.F.Field.ops g.met.F.Field.laws) (contents c.args.self.now) c.args.self.now.stands _ c.from_residual.result (search rules)

pub returns-clause-law : goal.returns-clause-law
returns-clause-law g c = clear_keeps (lawful g.F.Field.ops g.met.F.Field.laws) (contents c.args.self.now) c.args.self.now.stands _ (Ok tt) (search rules)
