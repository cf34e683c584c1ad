use Rattle.std.proofs.Common.{◌≡◌, ◌≤◌, drop}
use Rattle.frame.specs.Frames.{first_minute}
use Rattle.frame.proofs.checks.first_minute.Given as goal

abbrev pub invariant-loop-i : goal.invariant-loop-i
invariant-loop-i l = (first_minute l.i l.low (drop l.i l.terms) ≡ first_minute 0 0 l.terms) × (l.low ≤ 64)
