-- The first values are in their places. Assumes nothing.
use Rattle.std.proofs.Common.{◌≡◌, length, slice_index}
use Rattle.solver.specs.Steps.Vectors.{Placed}
use Rattle.solver.proofs.vectors.placed.Given as goal

abbrev pub invariant-loop-k : goal.invariant-loop-k
invariant-loop-k g l = (length l.vector ≡ g.row.N) × Placed l.k (slice_index l.places) (slice_index l.values) l.vector
