-- Settlements and stages are told apart by their cases. Assumes nothing.
use Rattle.std.proofs.Common.{◌≡◌, ℕ, cond, ◌==◌, slice_index, drop, sym, refl, ap, ◌∙◌}
use Rattle.solver.specs.declared.outcomes.Extent.TheVariants.{Whole, Part}
use Rattle.solver.specs.declared.outcomes.Outcome.{Outcome}
use Rattle.solver.specs.declared.outcomes.Outcome.TheVariants as outcomes
use Rattle.solver.specs.Outcomes.{Case, outcome_case}
use Rattle.solver.proofs.Cases.{outcome_of, outcome_own}
use Rattle.receiver.specs.declared.settlements.Settlement.{Settlement}
use Rattle.receiver.specs.declared.settlements.Settlement.TheVariants.{Solved, Contradiction, Failed}
use Rattle.receiver.specs.declared.stages.Stage.{Stage}
use Rattle.receiver.specs.declared.stages.Stage.TheVariants as stages
use Rattle.receiver.specs.Settlements.{settlement_case}
use Rattle.receiver.specs.Stages.{stage_case}

-- the outcome that a case tells, without the extent
abbrev outcome_told : Case → Outcome
outcome_told c = outcome_of (cond (c.number == 1) (record { number = 1; values = drop 1 c.values }) c)

abbrev with_extent : ℕ → Outcome → Settlement
with_extent n (outcomes.Solved count) = Solved (cond (n == 1) Whole Part) count
with_extent n (outcomes.Contradiction count) = Contradiction count
with_extent n (outcomes.Failed failure) = Failed failure

abbrev settlement_told : Case → Settlement
settlement_told c = with_extent (slice_index c.values 0) (outcome_told c)

-- is the settlement itself
settlement_own : (s : Settlement) → settlement_told (settlement_case s) ≡ s
settlement_own (Solved Whole count) = refl
settlement_own (Solved Part count) = refl
settlement_own (Contradiction count) = refl
settlement_own (Failed failure) = ap (with_extent (slice_index (outcome_case (outcomes.Failed failure)).values 0)) (outcome_own (outcomes.Failed failure))

pub settlements_apart : (a b : Settlement) → settlement_case a ≡ settlement_case b → a ≡ b
settlements_apart a b e = sym (settlement_own a) ∙ ap settlement_told e ∙ settlement_own b

abbrev stage_told : Case → Stage
stage_told c = cond (c.number == 1) stages.Gathering (cond (c.number == 2) stages.Settled stages.Disputed)

stage_own : (s : Stage) → stage_told (stage_case s) ≡ s
stage_own stages.Gathering = refl
stage_own stages.Settled = refl
stage_own stages.Disputed = refl

pub stages_apart : (a b : Stage) → stage_case a ≡ stage_case b → a ≡ b
stages_apart a b e = sym (stage_own a) ∙ ap stage_told e ∙ stage_own b
