-- The cases of faults, sides, outcomes and extents: each has a number, and values. Assumes nothing.
use Rattle.std.specs.Prelude.{◌≡◌, ℕ, ◌+◌, cond, List, [], ◌∷◌, Option, Result, ◌==◌}
use Rattle.std.specs.Prelude.{slice_index}
use Rattle.std.specs.Result.{result_map_both}
use Rattle.solver.specs.declared.faults.Fault.{Fault}
use Rattle.solver.specs.declared.faults.Fault.TheVariants.{Missed, Zero, NoPlace}
use Rattle.solver.specs.declared.questions.Side.{Side}
use Rattle.solver.specs.declared.questions.Side.TheVariants as sides
use Rattle.solver.specs.declared.outcomes.Extent.{Extent}
use Rattle.solver.specs.declared.outcomes.Extent.TheVariants.{Whole, Part}
use Rattle.solver.specs.declared.outcomes.Outcome.{Outcome}
use Rattle.solver.specs.declared.outcomes.Outcome.TheVariants.{Solved, Contradiction, Failed}

-- a case's number, and the values that it carries
pub record Case : Type 0 where
  pub number : ℕ
  pub values : List ℕ

-- none although a place is not 0, a place of value 0, a place that does not exist; each with its
-- place
abbrev pub fault_case : Fault → Case
fault_case (Missed i) = record { number = 1; values = i ∷ [] }
fault_case (Zero i) = record { number = 2; values = i ∷ [] }
fault_case (NoPlace i) = record { number = 3; values = i ∷ [] }

abbrev pub fault_place : Fault → ℕ
fault_place f = slice_index (fault_case f).values 0

-- an answer that is verified or has a fault, with the fault as a case
abbrev pub faulted : Result (Option ℕ) Fault → Result (Option ℕ) Case
faulted = result_map_both (λ a. a) fault_case

abbrev pub side_case : Side → Case
side_case sides.Row = record { number = 1; values = [] }
side_case sides.Column = record { number = 2; values = [] }

-- solved and contradiction with the numbers of pivots and of questions
abbrev pub solved_case : ℕ → ℕ → Case
solved_case pivots questions = record { number = 1; values = pivots ∷ questions ∷ [] }

abbrev pub contradiction_case : ℕ → ℕ → Case
contradiction_case pivots questions = record { number = 2; values = pivots ∷ questions ∷ [] }

-- failed with the question's number, its side, the kind of fault and its place
abbrev pub failed_case : ℕ → Side → Case → Case
failed_case question side fault =
    record { number = 3; values = question ∷ (side_case side).number ∷ fault.number ∷ fault.values }

abbrev pub outcome_case : Outcome → Case
outcome_case (Solved c) = solved_case c.pivots c.questions
outcome_case (Contradiction c) = contradiction_case c.pivots c.questions
outcome_case (Failed f) = failed_case f.question f.side (fault_case f.fault)

-- how it ended, by the numbers of the cases
abbrev pub IsSolved : Case → Type 0
IsSolved o = o.number ≡ 1

abbrev pub IsContradiction : Case → Type 0
IsContradiction o = o.number ≡ 2

abbrev pub IsFailed : Case → Type 0
IsFailed o = o.number ≡ 3

-- whole and part
abbrev pub extent_case : Extent → Case
extent_case Whole = record { number = 1; values = [] }
extent_case Part = record { number = 2; values = [] }

-- whole where the pivots and the noted minutes together are as many as the minutes, and else part
abbrev pub extent_of : ℕ → ℕ → ℕ → Case
extent_of pivots noted width = cond (pivots + noted == width) (extent_case Whole) (extent_case Part)
