use Rattle.std.proofs.Common.{◌≡◌, ℕ, ◌-◌, ◌<◌, ◌≤◌, length, get_or}
use Rattle.framelog.proofs.parts.line_end.Given as goal

-- no line ends in the bytes that are passed over
abbrev pub invariant-loop-from : goal.invariant-loop-from
invariant-loop-from l = (l.from ≤ length l.bytes) × ((k : ℕ) → k < l.from → get_or l.bytes k 0 ≡ 10 → ⊥)

abbrev pub decreases-loop-from : goal.decreases-loop-from
decreases-loop-from l = length l.bytes - l.from
