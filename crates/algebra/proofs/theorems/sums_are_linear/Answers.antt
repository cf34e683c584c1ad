-- From the laws of the bound. Assumes nothing.
use Rattle.field.specs.LawsForAll.{lawful}
use Rattle.algebra.proofs.Sums.{sum_laws}
use Rattle.algebra.proofs.Products.{product_laws}
use Rattle.algebra.proofs.theorems.sums_are_linear.Goals as goal

pub returns : goal.returns
returns g c = let F = lawful g.F.Field.ops g.met.F.Field.laws in record { sums = sum_laws F; products = product_laws F }
