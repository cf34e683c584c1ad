-- From the laws of the bound. Assumes nothing.
use Rattle.field.specs.LawsForAll.{lawful}
use Rattle.algebra.proofs.Growth.{growth_laws}
use Rattle.algebra.proofs.theorems.pivots_grow.Goals as goal

pub returns : goal.returns
returns g c = growth_laws (lawful g.F.Field.ops g.met.F.Field.laws)
