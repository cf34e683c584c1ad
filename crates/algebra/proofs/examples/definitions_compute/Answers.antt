-- Computed. Assumes nothing.
use Rattle.std.proofs.Common.{refl}
use Rattle.field.specs.Operations.{first_from, reciprocal, inverse}
use Rattle.field.specs.Sums.{Σ}
use Rattle.algebra.specs.Vectors.{δ}
use Rattle.algebra.specs.Profiles.{with_row, eliminate}
use Rattle.algebra.proofs.examples.definitions_compute.Goals as goal

pub returns : goal.returns
unfolding first_from reciprocal inverse Σ δ with_row eliminate
returns c = record { rank_two = refl; inverse = refl; all_blocks = refl; solution = refl; combination = refl; left = refl; kernel_vector = refl }
