-- The places below the counter are filled. Assumes nothing.
use Rattle.field.specs.Slices.{Filled}
use Rattle.fieldspeed.specs.Slices.{inverted}
use Rattle.fieldspeed.proofs.inverse_all.Given as goal

abbrev pub invariant-loop-i : goal.invariant-loop-i
invariant-loop-i g l = Filled l.i (inverted g.F.Field.ops l.a) l.initial.out l.out
