-- From the laws of the bound. Assumes nothing.
use Rattle.field.specs.LawsForAll.{lawful}
use Rattle.algebra.proofs.Pivots.{uniqueness_laws}
use Rattle.algebra.proofs.theorems.pivot_rows_determine_choices.Goals as goal

pub returns : goal.returns
returns g c = uniqueness_laws (lawful g.F.Field.ops g.met.F.Field.laws)
