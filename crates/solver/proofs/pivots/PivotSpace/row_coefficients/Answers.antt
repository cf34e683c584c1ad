use Rattle.std.proofs.Common.{◌≡◌, ℕ, ap, sym, arith, subst, slice_index, ◌∙◌}
use Rattle.field.specs.LawsForAll.{lawful}
use Rattle.rows.specs.Values.{entry}
use Rattle.solver.specs.Steps.Spaces.{pivots_of}
use Rattle.solver.proofs.Steps.{RowsCombined, rows_none, rows_next, rows_skip}
use Rattle.solver.proofs.pivots.PivotSpace.row_coefficients.Goals as goal
use Rattle.solver.proofs.pivots.PivotSpace.row_coefficients.Goals.{then-weight-ne0, else-weight-ne0}

pub loop-k-init : goal.loop-k-init
loop-k-init g c =
    let S = pivots_of c.args.self.now in
    rows_none (lawful g.F.Field.ops g.met.F.Field.laws) S.count c.args.self.now.fit.few (λ k. entry g.F.Field.ops (g.R.Rows.system c.args.rows.now) c.args.row (S.column k)) S.inverse c.zeros-sums.result c.zeros-sums.ensures

pub loop-k-preserved : goal.loop-k-preserved
loop-k-preserved g c =
    let F = lawful g.F.Field.ops g.met.F.Field.laws in
    let space = c.args.self.now in
    let S = pivots_of space in
    let k = c.loop-k.k in
    let weights = entry g.F.Field.ops (g.R.Rows.system c.args.rows.now) c.args.row in
    let v = λ (k : ℕ). weights (S.column k) in
    let below = space.fit.columns_below k c.loop-k-test.true in
    let read : slice_index c.row_weights-weights.result c.from.result ≡ v k =
    c.row_weights-weights.ensures.each c.from.result (omega (arith, c.from.ensures)) ∙ ap weights c.from.ensures in
    elim c.if-weight-ne0.branch [
      | then-weight-ne0 w ↦
          rw (w.sums-is)
          (rows_next F S.count space.fit.few v S.inverse k (slice_index c.row_weights-weights.result c.from.result) w.inverse_row.result.now c.loop-k.sums w.add_multiple.new.x c.loop-k.invariant
          read w.inverse_row.ensures.long w.inverse_row.ensures.each w.add_multiple.ensures)
      | else-weight-ne0 w ↦
          rw (w.sums-is)
          (rows_skip F S.count space.fit.few v S.inverse k c.loop-k.sums c.loop-k.invariant (sym read ∙ w.if-weight-ne0.false))
    ]

pub returns : goal.returns
returns g c =
    let S = pivots_of c.args.self.now in
    let weights = entry g.F.Field.ops (g.R.Rows.system c.args.rows.now) c.args.row in
    let all : c.loop-k.k ≡ S.count = omega (arith, c.loop-k-test.false, c.loop-k.auto.k-end) in
    (subst (λ r. RowsCombined g.F.Field.ops S.count (λ k. weights (S.column k)) S.inverse r c.loop-k.sums) all c.loop-k.invariant).each
