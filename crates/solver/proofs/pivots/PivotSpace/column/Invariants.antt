-- The places below the counter are done. Assumes nothing.
use Rattle.field.specs.Slices.{Filled}
use Rattle.rows.specs.Values.{entry}
use Rattle.solver.specs.Steps.Spaces.{pivots_of}
use Rattle.solver.proofs.pivots.PivotSpace.column.Given as goal

abbrev pub invariant-loop-k : goal.invariant-loop-k
invariant-loop-k g l = Filled l.k (λ k. entry g.F.Field.ops (g.R.Rows.system l.rows) ((pivots_of l.self).row k) l.minute) l.initial.column l.column
