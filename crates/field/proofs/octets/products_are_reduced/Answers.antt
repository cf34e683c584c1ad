-- By long division. Assumes nothing.
use Rattle.field.proofs.Division.{reduced_products}
use Rattle.field.proofs.octets.products_are_reduced.Goals as goal

pub returns : goal.returns
returns c = reduced_products
