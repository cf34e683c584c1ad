-- The rows of the inverse below the counter are added. Assumes nothing.
use Rattle.rows.specs.Values.{entry}
use Rattle.solver.specs.Steps.Spaces.{pivots_of}
use Rattle.solver.proofs.Steps.{RowsCombined}
use Rattle.solver.proofs.pivots.PivotSpace.row_coefficients.Given as goal

abbrev pub invariant-loop-k : goal.invariant-loop-k
invariant-loop-k g l =
    let S = pivots_of l.self in
    RowsCombined g.F.Field.ops S.count (λ k. entry g.F.Field.ops (g.R.Rows.system l.rows) l.row (S.column k)) S.inverse l.k l.sums
