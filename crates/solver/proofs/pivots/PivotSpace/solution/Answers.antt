use Rattle.std.proofs.Common.{arith, slice_index}
use Rattle.field.specs.LawsForAll.{lawful}
use Rattle.solver.specs.Steps.Spaces.{pivots_of}
use Rattle.rows.specs.Systems.{sum_at}
use Rattle.solver.proofs.Placing.{placed_taken}
use Rattle.solver.proofs.Steps.{solution_held}
use Rattle.solver.proofs.pivots.PivotSpace.solution.Goals as goal

pub returns : goal.returns
returns g c =
    let space = c.args.self.now in
    solution_held (lawful g.F.Field.ops g.met.F.Field.laws) (sum_at (g.R.Rows.system c.args.rows.now)) (pivots_of space) c.sums.result c.times-product.result c.placed.result c.sums.ensures c.times-product.ensures
    (placed_taken space.count space.pivot_columns.now (slice_index c.times-product.result) c.placed.result (omega (arith, space.fit.few, space.fit.column_places)) c.placed.ensures.placed)
    c.placed.ensures.long
