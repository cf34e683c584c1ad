use Rattle.lines.proofs.Exact.{echoes}
use Rattle.lines.proofs.answers.answer.Goals as goal

pub returns-in_err-reserve-clause-echo : goal.returns-in_err-reserve-clause-echo
returns-in_err-reserve-clause-echo c = echoes c.args.line.now

pub returns-clause-echo : goal.returns-clause-echo
returns-clause-echo c = echoes c.args.line.now
