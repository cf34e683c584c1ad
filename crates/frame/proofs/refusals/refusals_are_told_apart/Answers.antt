use Rattle.frame.proofs.Apart.{refusals_apart}
use Rattle.frame.proofs.refusals.refusals_are_told_apart.Goals as goal

pub returns : goal.returns
returns c = refusals_apart
