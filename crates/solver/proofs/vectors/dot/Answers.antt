use Rattle.std.proofs.Common.{rules}
use Rattle.field.specs.Sums.{Σ}
use Rattle.solver.proofs.vectors.dot.Goals as goal

pub loop-k-init : goal.loop-k-init
unfolding Σ
loop-k-init g c = search rules

pub loop-k-preserved : goal.loop-k-preserved
unfolding Σ
loop-k-preserved g c = search rules
