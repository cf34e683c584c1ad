use Rattle.std.proofs.Common.{arith}
use Rattle.framelog.proofs.Passed.{passed_over}
use Rattle.framelog.proofs.parts.line_end.Goals as goal

pub loop-from-preserved : goal.loop-from-preserved
loop-from-preserved c =
    (omega arith, passed_over c.args.bytes.now 10 c.loop-from.from 64 _ (omega arith) (omega arith) c.loop-from.invariant.1 c.if-not-contains.ensures.cases)
