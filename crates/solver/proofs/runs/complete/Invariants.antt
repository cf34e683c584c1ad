-- The rest of the run is ahead, and each turn adds a pivot. Assumes nothing.
use Rattle.std.proofs.Common.{◌-◌}
use Rattle.solver.specs.Steps.Spaces.{pivots_of}
use Rattle.solver.proofs.Completing.{Turning}
use Rattle.solver.proofs.runs.complete.Given as goal

abbrev pub invariant-loop-outcome : goal.invariant-loop-outcome
invariant-loop-outcome g l =
    Turning g.F.Field.ops (g.R.Rows.system l.rows) g.S.Scout.meaning l.initial.scout l.initial.findings (pivots_of l.pivots) l.scout l.findings

abbrev pub decreases-loop-outcome : goal.decreases-loop-outcome
decreases-loop-outcome g l = (g.R.Rows.system l.rows).width - l.pivots.count
