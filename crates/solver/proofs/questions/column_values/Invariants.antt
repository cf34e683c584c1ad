-- The rows below the counter are added up. Assumes nothing.
use Rattle.rows.specs.Values.{choice}
use Rattle.solver.proofs.AddedRows.{ColumnSums}
use Rattle.solver.proofs.questions.column_values.Given as goal

abbrev pub invariant-loop-row : goal.invariant-loop-row
invariant-loop-row g l = ColumnSums g.F.Field.ops (g.R.Rows.system l.rows) (choice l.u) l.row l.values
