use Rattle.std.proofs.Common.{refl, arith}
use Rattle.solverspeed.proofs.Reading.{one_more, all_read}
use Rattle.solverspeed.proofs.read_terms.Goals as goal

pub loop-k-init : goal.loop-k-init
loop-k-init c = record { long = refl; each = λ k h. absurd (omega (arith, h)) }

pub loop-k-preserved : goal.loop-k-preserved
loop-k-preserved c = one_more c.loop-k.k c.args.pairs.now c.loop-k.terms (omega (arith, c.loop-k-test.true, c.min-count.ensures)) c.loop-k.invariant

pub returns : goal.returns
returns c n = all_read c.loop-k.k n c.args.pairs.now c.loop-k.terms (omega (arith, c.loop-k-test.false, c.loop-k.auto.k-end, c.min-count.ensures)) c.loop-k.invariant
