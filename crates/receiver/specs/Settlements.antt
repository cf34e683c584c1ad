-- How a block's settle ends: each case has a number, and values. Assumes nothing.
use Rattle.std.specs.Prelude.{◌≡◌, ℕ, ◌∷◌, ◌==◌, cond, slice_index}
use Rattle.solver.specs.declared.outcomes.Extent.TheVariants.{Whole}
use Rattle.solver.specs.declared.outcomes.Outcome.TheVariants as outcomes
use Rattle.solver.specs.Outcomes.{Case, extent_case, extent_of, outcome_case, IsSolved}
use Rattle.receiver.specs.declared.settlements.Settlement.{Settlement}
use Rattle.receiver.specs.declared.settlements.Settlement.TheVariants.{Solved, Contradiction}
use Rattle.receiver.specs.declared.settlements.Settlement.TheVariants.{Failed}

-- the values of a solved run, after the number of its extent
abbrev pub solved_as : Case → Case → Case
solved_as extent outcome =
    record { number = outcome.number; values = extent.number ∷ outcome.values }

-- solved with the numbers of the extent, of pivots and of questions; contradiction and failed with
-- the values of the outcome
abbrev pub settlement_case : Settlement → Case
settlement_case (Solved extent count) =
    solved_as (extent_case extent) (outcome_case (outcomes.Solved count))
settlement_case (Contradiction count) = outcome_case (outcomes.Contradiction count)
settlement_case (Failed failure) = outcome_case (outcomes.Failed failure)

-- the settlement of a run that ended so: a solved one, whose first value is its number of pivots,
-- is whole or part over an hour of so many minutes, of which so many are noted
abbrev pub settlement_of : Case → ℕ → ℕ → Case
settlement_of outcome noted width =
    cond (outcome.number == 1)
    (solved_as (extent_of (slice_index outcome.values 0) noted width) outcome)
    outcome

-- solved, and whole
abbrev pub IsWhole : Case → Type 0
IsWhole o = IsSolved o × (slice_index o.values 0 ≡ (extent_case Whole).number)
