use Rattle.std.proofs.Common.{rules}
use Rattle.field.specs.LawsForAll.{lawful}
use Rattle.receiver.specs.Blocks.{contents}
use Rattle.receiver.proofs.Ordered.{strike_ordered}
use Rattle.receiver.proofs.Keeping.{strike_keeps}
use Rattle.receiver.proofs.blocks.Block.strike.Goals as goal

pub returns-clause-order : goal.returns-clause-order
returns-clause-order g c = strike_ordered (contents c.args.self.now) c.args.slip.name c.args.row _ (search rules)

pub returns-clause-law : goal.returns-clause-law
returns-clause-law g c = strike_keeps (lawful g.F.Field.ops g.met.F.Field.laws) (contents c.args.self.now) c.args.self.now.stands _ c.args.slip.name c.args.row c.spend_on.result (search rules)
