use Rattle.std.proofs.Common.{take}
use Rattle.lines.specs.Appending.{Puts}
use Rattle.lines.proofs.writing.put.Given as goal

abbrev pub invariant-loop-byte : goal.invariant-loop-byte
invariant-loop-byte l = Puts l.initial.out l.out (take l.byte-index l.bytes)
