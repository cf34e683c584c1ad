-- The places below the counter are done. Assumes nothing.
use Rattle.field.specs.Slices.{Filled}
use Rattle.rows.specs.Systems.{sum_at}
use Rattle.solver.specs.Steps.Spaces.{pivots_of}
use Rattle.solver.proofs.pivots.PivotSpace.sums.Given as goal

abbrev pub invariant-loop-k : goal.invariant-loop-k
invariant-loop-k g l = Filled l.k (λ k. sum_at (g.R.Rows.system l.rows) ((pivots_of l.self).row k)) l.initial.sums l.sums
