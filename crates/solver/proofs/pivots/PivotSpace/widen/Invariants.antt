-- The rows below the counter are widened. Assumes nothing.
use Rattle.std.proofs.Common.{slice_index}
use Rattle.solver.specs.Steps.Pivots.{RowsWidened}
use Rattle.solver.specs.Steps.Spaces.{SamePlaces}
use Rattle.solver.proofs.pivots.PivotSpace.widen.Given as goal

abbrev pub invariant-loop-k : goal.invariant-loop-k
invariant-loop-k g l =
    SamePlaces l.initial.self l.self
    × RowsWidened g.F.Field.ops l.initial.self.count l.k (slice_index l.y) l.w (slice_index l.z) l.initial.self.inverse.now l.self.inverse.now
