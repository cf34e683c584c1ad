use Rattle.receiver.proofs.Apart.{settlements_apart, stages_apart}
use Rattle.receiver.proofs.settlements.answers_are_told_apart.Goals as goal

pub returns : goal.returns
returns c = record { settlements = settlements_apart; stages = stages_apart }
