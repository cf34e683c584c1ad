-- The places below the counter are done. Assumes nothing.
use Rattle.std.proofs.Common.{slice_index}
use Rattle.field.specs.Slices.{Filled}
use Rattle.solver.proofs.vectors.write_negatives.Given as goal

abbrev pub invariant-loop-k : goal.invariant-loop-k
invariant-loop-k g l = Filled l.k (λ k. g.F.Field.ops.negative (g.F.Field.ops.times l.factor (slice_index l.y k))) l.initial.x l.x
