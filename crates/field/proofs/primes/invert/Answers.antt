-- Each turn keeps the multipliers, and at a remainder of 1 they give the inverse. Assumes nothing.
use Rattle.std.proofs.Common.{ℕ, ◌+◌, ◌*◌, ◌/◌, ◌%◌, ◌<◌, mod-lt, arith, lit<}
use Rattle.field.specs.Residues.{undivided}
use Rattle.field.specs.Euclid.{Turn, Half, half, next, high_inverts}
use Rattle.field.proofs.primes.invert.Goals as goal

middle : {a high low to_high to_low : ℕ} → Turn 65521 a high low to_high to_low → 1 < low → Half 65521 a (high % low) low (to_high + high / low * to_low) to_low
middle = half undivided

pub returns-then-high-eq1-clause-inverts : goal.returns-then-high-eq1-clause-inverts
returns-then-high-eq1-clause-inverts c = let H = middle c.loop-low.invariant c.loop-low-test.true in high_inverts H.multipliers (lit< tt) H.most c.if-high-eq1.true

pub nonzero_div-to_low : goal.nonzero_div-to_low
nonzero_div-to_low c = (middle c.loop-low.invariant c.loop-low-test.true).high_some

pub nonzero_rem-low : goal.nonzero_rem-low
nonzero_rem-low c = (middle c.loop-low.invariant c.loop-low-test.true).high_some

pub loop-low-preserved : goal.loop-low-preserved
loop-low-preserved c = let H = middle c.loop-low.invariant c.loop-low-test.true in next undivided H (omega (arith, H.high_some))

pub loop-low-smaller : goal.loop-low-smaller
loop-low-smaller c =
    let H = middle c.loop-low.invariant c.loop-low-test.true in
    let less = mod-lt c.loop-low.low H.high_some in
    omega (arith, H.high_less)
