-- The terms handed out are added. Assumes nothing.
use Rattle.rows.specs.Systems.{row_at}
use Rattle.rows.specs.RowTerms.{terms_left}
use Rattle.solver.proofs.AddedRows.{Adding}
use Rattle.solver.proofs.vectors.add_row.Given as goal

abbrev pub invariant-loop-term : goal.invariant-loop-term
invariant-loop-term g l =
    Adding g.F.Field.ops l.factor l.initial.values (row_at (g.R.Rows.system l.rows) l.row).terms l.yielded (terms_left g.R.Rows.system l.term-iterator) l.values
