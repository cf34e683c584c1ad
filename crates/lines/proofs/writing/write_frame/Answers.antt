use Rattle.std.proofs.Common.{arith}
use Rattle.lines.proofs.Exact.{one_line, is_frame}
use Rattle.lines.proofs.writing.write_frame.Goals as goal

pub returns-in_err-reserve-clause-exact : goal.returns-in_err-reserve-clause-exact
returns-in_err-reserve-clause-exact c = one_line _ _ (is_frame c.args.frame.now)

pub put_frame-requires : goal.put_frame-requires
put_frame-requires c =
    let line = one_line _ _ (is_frame c.args.frame.now) in
    omega (arith, line.short, c.in_ok-reserve.ensures.ok)

pub returns-clause-exact : goal.returns-clause-exact
returns-clause-exact c = one_line _ _ (is_frame c.args.frame.now)
