use Rattle.std.proofs.Common.{◌≡◌}
use Rattle.rows.specs.Systems.{row_at}
use Rattle.rows.specs.RowTerms.{terms_left}
use Rattle.rows.specs.Values.{weight_for}
use Rattle.rows.proofs.values.entry.Given as goal

-- the minute is not among the terms read
abbrev pub invariant-loop-term : goal.invariant-loop-term
invariant-loop-term g l =
    weight_for (terms_left g.R.Rows.system l.term-iterator) l.minute ≡ weight_for (row_at (g.R.Rows.system l.rows) l.row).terms l.minute
