-- The places below the counter are done. Assumes nothing.
use Rattle.std.proofs.Common.{slice_index}
use Rattle.field.specs.Slices.{Filled}
use Rattle.algebra.specs.Vectors.{mul_vec}
use Rattle.solver.specs.Steps.Spaces.{pivots_of}
use Rattle.solver.proofs.pivots.PivotSpace.times.Given as goal

abbrev pub invariant-loop-k : goal.invariant-loop-k
invariant-loop-k g l = Filled l.k (mul_vec g.F.Field.ops l.self.count (pivots_of l.self).inverse (slice_index l.v)) l.initial.product l.product
