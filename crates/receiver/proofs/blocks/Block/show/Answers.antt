use Rattle.field.specs.LawsForAll.{lawful}
use Rattle.receiver.specs.Blocks.{contents}
use Rattle.receiver.proofs.Held.{safe, notes_shown}
use Rattle.receiver.proofs.blocks.Block.show.Goals as goal

pub returns-clause-law : goal.returns-clause-law
returns-clause-law g c = λ m calls had. safe (lawful g.F.Field.ops g.met.F.Field.laws) m calls (contents c.args.self.now) had c.args.self.now.stands

pub returns-clause-noted : goal.returns-clause-noted
returns-clause-noted g c = let b = (contents c.args.self.now) in notes_shown g.F.Field.ops b.codes b.system c.args.self.now.noted.fits b.state c.args.self.now.stands
