use Rattle.std.proofs.Common.{arith, slice_index}
use Rattle.field.specs.LawsForAll.{lawful}
use Rattle.solver.specs.Steps.Spaces.{pivots_of}
use Rattle.solver.proofs.Placing.{placed_taken}
use Rattle.solver.proofs.Steps.{multipliers_held}
use Rattle.solver.proofs.pivots.PivotSpace.multipliers.Goals as goal

pub returns : goal.returns
returns g c =
    let space = c.args.self.now in
    multipliers_held (lawful g.F.Field.ops g.met.F.Field.laws) (pivots_of space) c.args.row c.args.coefficients.now c.negated.result c.placed-u.result space.fit.few c.negated.ensures
    (placed_taken space.count space.pivot_rows.now (slice_index c.negated.result) c.placed-u.result (omega (arith, space.fit.few, space.fit.row_places)) c.placed-u.ensures.placed)
    c.placed-u.ensures.long c.requires
