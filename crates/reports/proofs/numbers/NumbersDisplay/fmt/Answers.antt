use Rattle.std.proofs.Common.{rules}
use Rattle.std.proofs.lemmas.Grind.{put_two}
use Rattle.reports.proofs.Written.{number_more}
use Rattle.reports.proofs.numbers.NumbersDisplay.fmt.Goals as goal

pub loop-number-preserved : goal.loop-number-preserved
loop-number-preserved g c plain =
    put_two _ _ _ _ _ _ _ (c.loop-number.invariant plain) (search rules) (number_more c.args.self.now.numbers.now c.loop-number.number-index c.loop-number-test.true)
