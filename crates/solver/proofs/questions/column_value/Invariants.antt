-- The rows below the counter are added up. Assumes nothing.
use Rattle.std.proofs.Common.{◌≡◌}
use Rattle.rows.specs.Values.{choice, entry}
use Rattle.algebra.specs.Vectors.{dot}
use Rattle.solver.proofs.questions.column_value.Given as goal

abbrev pub invariant-loop-row : goal.invariant-loop-row
invariant-loop-row g l = l.total ≡ dot g.F.Field.ops l.row (choice l.u) (λ i. entry g.F.Field.ops (g.R.Rows.system l.rows) i l.minute)
