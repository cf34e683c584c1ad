use Rattle.field.specs.LawsForAll.{lawful}
use Rattle.receiver.specs.Blocks.{contents}
use Rattle.receiver.proofs.Held.{safe, blame_impossible}
use Rattle.receiver.proofs.blocks.Block.blame.Goals as goal

pub returns-clause-law : goal.returns-clause-law
returns-clause-law g c = λ m calls had. safe (lawful g.F.Field.ops g.met.F.Field.laws) m calls (contents c.args.self.now) had c.args.self.now.stands

pub returns-clause-impossible : goal.returns-clause-impossible
returns-clause-impossible g c = let b = (contents c.args.self.now) in blame_impossible g.F.Field.ops b.codes b.system b.state c.args.self.now.stands
