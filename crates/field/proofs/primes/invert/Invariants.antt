-- The loop ends since the low remainder falls. Assumes nothing.
use Rattle.field.specs.Euclid.{Turn}
use Rattle.field.proofs.primes.invert.Given as goal

abbrev pub invariant-loop-low : goal.invariant-loop-low
invariant-loop-low l = Turn 65521 l.a l.high l.low l.to_high l.to_low

abbrev pub decreases-loop-low : goal.decreases-loop-low
decreases-loop-low l = l.low
