use Rattle.solver.proofs.Cases.{outcomes_apart, extents_apart}
use Rattle.solver.proofs.outcomes.outcomes_are_told_apart.Goals as goal

pub returns : goal.returns
returns c = record { outcomes = outcomes_apart; extents = extents_apart }
