use Rattle.std.proofs.Common.{◌≡◌, ◌<◌, drop}
use Rattle.lines.specs.Numbers.{read_on}
use Rattle.lines.proofs.numbers.digits_value.Given as goal

abbrev pub invariant-loop-byte : goal.invariant-loop-byte
invariant-loop-byte l = (read_on l.n (drop l.byte-index l.text) ≡ read_on 0 l.text) × (l.n < 65536)
