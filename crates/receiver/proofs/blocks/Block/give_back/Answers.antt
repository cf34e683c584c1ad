use Rattle.std.proofs.Common.{rules}
use Rattle.field.specs.LawsForAll.{lawful}
use Rattle.receiver.specs.Blocks.{contents}
use Rattle.receiver.proofs.Keeping.{give_back_keeps}
use Rattle.receiver.proofs.blocks.Block.give_back.Goals as goal

pub returns-clause-law : goal.returns-clause-law
returns-clause-law g c = give_back_keeps (lawful g.F.Field.ops g.met.F.Field.laws) (contents c.args.self.now) c.args.self.now.stands _ c.args.slip.name c.spend_on.result (search rules)
