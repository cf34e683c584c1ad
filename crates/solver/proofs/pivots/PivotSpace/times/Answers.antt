use Rattle.std.proofs.Common.{slice_index, arith, length}
use Rattle.field.specs.LawsForAll.{lawful}
use Rattle.algebra.specs.Vectors.{mul_vec}
use Rattle.solver.specs.Steps.Spaces.{pivots_of}
use Rattle.solver.proofs.Filling.{filled_next}
use Rattle.solver.proofs.Products.{dot-of_row}
use Rattle.solver.proofs.pivots.PivotSpace.times.Goals as goal

pub loop-k-preserved : goal.loop-k-preserved
loop-k-preserved g c =
    let S = pivots_of c.args.self.now in
    let v = slice_index c.args.v.now in
    filled_next (mul_vec g.F.Field.ops S.count S.inverse v) c.zeros-product.result c.loop-k.k c.dot.result c.loop-k.product (omega (arith, c.zeros-product.ensures.long, c.args.self.now.fit.few, c.loop-k-test.true)) c.loop-k.invariant
    (dot-of_row (lawful g.F.Field.ops g.met.F.Field.laws) S.count (S.inverse c.loop-k.k) v c.inverse_row.result.now (length c.args.v.now) c.dot.result c.inverse_row.ensures.long (omega (arith, c.told-v, c.args.self.now.fit.few)) c.inverse_row.ensures.each c.dot.ensures)
