-- From the laws of the bound. Assumes nothing.
use Rattle.field.specs.LawsForAll.{lawful}
use Rattle.algebra.proofs.Profiles.{profile_laws}
use Rattle.algebra.proofs.theorems.profiles_are_least.Goals as goal

pub returns : goal.returns
returns g c = profile_laws (lawful g.F.Field.ops g.met.F.Field.laws)
