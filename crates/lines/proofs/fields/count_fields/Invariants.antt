use Rattle.std.proofs.Common.{◌≡◌, ◌+◌, ◌≤◌, length, drop}
use Rattle.lines.specs.Fields.{split}
use Rattle.lines.proofs.fields.count_fields.Given as goal

abbrev pub invariant-loop-byte : goal.invariant-loop-byte
invariant-loop-byte l = (l.count + length (split 44 (drop l.byte-index l.line)) ≡ length (split 44 l.line) + 1) × (l.count ≤ l.byte-index + 1)
