use Rattle.field.specs.LawsForAll.{lawful}
use Rattle.receiver.specs.Blocks.{contents}
use Rattle.receiver.proofs.Held.{safe}
use Rattle.receiver.proofs.blocks.Block.profile.Goals as goal

pub returns-clause-law : goal.returns-clause-law
returns-clause-law g c m calls had =
    let block = c.args.self.now in
    safe (lawful g.F.Field.ops g.met.F.Field.laws) m calls (contents block) had block.stands
