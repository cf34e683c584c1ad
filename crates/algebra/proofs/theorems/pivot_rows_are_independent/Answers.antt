-- From the laws of the bound. Assumes nothing.
use Rattle.field.specs.LawsForAll.{lawful}
use Rattle.algebra.proofs.Pivots.{pivot_laws}
use Rattle.algebra.proofs.Profiles.{rank_laws}
use Rattle.algebra.proofs.theorems.pivot_rows_are_independent.Goals as goal

pub returns : goal.returns
returns g c = let F = lawful g.F.Field.ops g.met.F.Field.laws in record { pivots = pivot_laws F; rank = rank_laws F }
