-- The elimination of the rows below the counter is done. Assumes nothing.
use Rattle.rows.specs.Values.{entry}
use Rattle.algebra.specs.Profiles.{eliminate}
use Rattle.solver.specs.Steps.Pivots.{SamePivots}
use Rattle.solver.specs.Steps.Spaces.{pivots_of}
use Rattle.solver.proofs.profiles.profile.Given as goal

abbrev pub invariant-loop-row : goal.invariant-loop-row
invariant-loop-row g l =
    let S = g.R.Rows.system l.rows in
    SamePivots (pivots_of l.pivots) (eliminate g.F.Field.ops S.width (entry g.F.Field.ops S) l.row)
