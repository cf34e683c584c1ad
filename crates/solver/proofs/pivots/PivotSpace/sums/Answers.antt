use Rattle.std.proofs.Common.{ap, arith, ◌∙◌}
use Rattle.std.specs.Option.{unwrap_or}
use Rattle.rows.specs.Systems.{sum_at}
use Rattle.solver.specs.Steps.Spaces.{pivots_of}
use Rattle.solver.proofs.Filling.{filled_next}
use Rattle.solver.proofs.Readings.{sum_read}
use Rattle.solver.proofs.pivots.PivotSpace.sums.Goals as goal

pub loop-k-preserved : goal.loop-k-preserved
loop-k-preserved g c =
    let S = g.R.Rows.system c.args.rows.now in
    filled_next (λ k. sum_at S ((pivots_of c.args.self.now).row k)) c.zeros-sums.result c.loop-k.k c.unwrap_or.result c.loop-k.sums (omega (arith, c.zeros-sums.ensures.long, c.args.self.now.fit.few, c.loop-k-test.true)) c.loop-k.invariant
    (c.unwrap_or.ensures ∙ ap (λ r. unwrap_or r 0) c.sum.ensures ∙ sum_read S c.from.result ∙ ap (sum_at S) c.from.ensures)
