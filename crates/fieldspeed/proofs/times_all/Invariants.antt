-- The places below the counter are filled. Assumes nothing.
use Rattle.field.specs.Slices.{Filled}
use Rattle.fieldspeed.specs.Slices.{product}
use Rattle.fieldspeed.proofs.times_all.Given as goal

abbrev pub invariant-loop-i : goal.invariant-loop-i
invariant-loop-i g l = Filled l.i (product g.F.Field.ops l.a l.b) l.initial.out l.out
