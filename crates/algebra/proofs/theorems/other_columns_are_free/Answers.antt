-- From the laws of the bound. Assumes nothing.
use Rattle.field.specs.LawsForAll.{lawful}
use Rattle.algebra.proofs.Pivots.{kernel_laws}
use Rattle.algebra.proofs.theorems.other_columns_are_free.Goals as goal

pub returns : goal.returns
returns g c = kernel_laws (lawful g.F.Field.ops g.met.F.Field.laws)
