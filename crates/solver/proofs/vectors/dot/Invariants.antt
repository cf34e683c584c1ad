-- The places below the counter are added up. Assumes nothing.
use Rattle.std.proofs.Common.{◌≡◌, slice_index}
use Rattle.algebra.specs.Vectors.{dot}
use Rattle.solver.proofs.vectors.dot.Given as goal

abbrev pub invariant-loop-k : goal.invariant-loop-k
invariant-loop-k g l = l.total ≡ dot g.F.Field.ops l.k (slice_index l.x) (slice_index l.y)
