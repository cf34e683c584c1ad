-- From the laws of the bound. Assumes nothing.
use Rattle.field.specs.LawsForAll.{lawful}
use Rattle.algebra.proofs.Pivots.{solution_laws}
use Rattle.algebra.proofs.theorems.pivots_solve.Goals as goal

pub returns : goal.returns
returns g c = solution_laws (lawful g.F.Field.ops g.met.F.Field.laws)
