-- From the laws of the bound. Assumes nothing.
use Rattle.field.specs.LawsForAll.{lawful}
use Rattle.algebra.proofs.Profiles.{elimination_laws}
use Rattle.algebra.proofs.theorems.eliminations_find_profiles.Goals as goal

pub returns : goal.returns
returns g c = elimination_laws (lawful g.F.Field.ops g.met.F.Field.laws)
