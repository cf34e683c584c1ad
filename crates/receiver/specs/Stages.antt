-- The stages of a block: each has a number. And what a block's state says; `State` is its own enum, a
-- case for each stage, with the 64 minutes that a settle found in the case settled, and the dispute,
-- u for 96 rows and whether the slip is out, in the case disputed. Assumes nothing.
use Rattle.std.specs.Prelude.{◌≡◌, ℕ, cond, false, Bool, [], None, Option, ◌==◌, nat_lt, not, ◌&&◌}
use Rattle.std.specs.List.{slice_get}
use Rattle.std.specs.Option.{unwrap_or}
use Rattle.solver.specs.Outcomes.{Case}
use Rattle.receiver.specs.declared.stages.Stage.{Stage}
use Rattle.receiver.specs.declared.stages.Stage.TheVariants as stages
use Rattle.receiver.specs.declared.stages.State.{State}
use Rattle.receiver.specs.declared.stages.State.TheVariants.{Gathering, Settled, Disputed}

-- the number of a stage; it carries no values
abbrev pub stage_case : Stage → Case
stage_case stages.Gathering = record { number = 1; values = [] }
stage_case stages.Settled = record { number = 2; values = [] }
stage_case stages.Disputed = record { number = 3; values = [] }

-- the same of a state, which is a stage with what the last settle found
abbrev pub state_case : State → Case
state_case Gathering = stage_case stages.Gathering
state_case (Settled minutes) = stage_case stages.Settled
state_case (Disputed dispute) = stage_case stages.Disputed

-- which stage it is, by the numbers of the cases
abbrev pub IsSettled : State → Type 0
IsSettled s = (state_case s).number ≡ 2

abbrev pub IsDisputed : State → Type 0
IsDisputed s = (state_case s).number ≡ 3

-- a test of the same
abbrev pub is_disputed : State → Bool
is_disputed s = (state_case s).number == 3

-- settled: the code found for a minute of m minutes; none in another stage, or where there is no
-- such minute
abbrev pub shown_in : State → ℕ → ℕ → Option ℕ
shown_in (Settled minutes) m c = cond (nat_lt c m) (slice_get minutes c) None
shown_in Gathering m c = None
shown_in (Disputed dispute) m c = None

-- disputed: the number u of a row of n rows; none in another stage, or where there is no such row
abbrev pub blamed_in : State → ℕ → ℕ → Option ℕ
blamed_in (Disputed dispute) n i = cond (nat_lt i n) (slice_get dispute.blame i) None
blamed_in Gathering n i = None
blamed_in (Settled minutes) n i = None

-- the same, with 0 for none
abbrev pub blame_in : State → ℕ → ℕ → ℕ
blame_in s n i = unwrap_or (blamed_in s n i) 0

-- disputed: whether the slip is out
abbrev pub slip_out : State → Bool
slip_out (Disputed dispute) = dispute.slip_out
slip_out Gathering = false
slip_out (Settled minutes) = false

-- whether there is a dispute whose slip is not out
abbrev pub slip_due : State → Bool
slip_due s = is_disputed s && not (slip_out s)

-- the slip handed out, or back
abbrev pub slip_moved : Bool → State → State
slip_moved out (Disputed dispute) = Disputed (record dispute { slip_out = out })
slip_moved out Gathering = Gathering
slip_moved out (Settled minutes) = Settled minutes
