-- From the laws of the bound. Assumes nothing.
use Rattle.field.specs.LawsForAll.{lawful}
use Rattle.algebra.proofs.Systems.{no_solution}
use Rattle.algebra.proofs.theorems.contradictions_refute.Goals as goal

pub returns : goal.returns
returns g c = no_solution (lawful g.F.Field.ops g.met.F.Field.laws)
