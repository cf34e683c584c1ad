-- From the laws of the bound. Assumes nothing.
use Rattle.field.specs.LawsForAll.{lawful}
use Rattle.algebra.proofs.Pivots.{schur_laws}
use Rattle.algebra.proofs.theorems.schur_complements_tell_spans.Goals as goal

pub returns : goal.returns
returns g c = schur_laws (lawful g.F.Field.ops g.met.F.Field.laws)
