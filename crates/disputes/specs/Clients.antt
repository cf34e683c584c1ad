-- What clients of a block answer. Assumes nothing.
use Rattle.std.specs.Prelude.{◌≡◌, ℕ, ◌<◌, not, Ok, Err, Some, Result}
use Rattle.field.specs.Operations.{Operations}
use Rattle.frame.specs.Refusals.{RefusalCase}
use Rattle.frame.specs.Orders.{refuse, when}
use Rattle.rows.specs.Systems.{Row}
use Rattle.rows.specs.Values.{Satisfies}
use Rattle.solver.specs.Outcomes.{Case}
use Rattle.receiver.specs.Stages.{slip_due}
use Rattle.receiver.specs.Contents.{Contents, shown_at, with_row}
use Rattle.receiver.specs.Answers.{is_unblamed, answer_to_take, answer_to_settle}
use Rattle.receiver.specs.Uses.{Use}
use Rattle.receiver.specs.Laws.{IsChoice, Had}

-- the answer to a strike with the block's own slip: 7 where there is none to give, then 9
abbrev pub answer_to_strike_now : Contents → ℕ → Result (Unit {0}) RefusalCase
answer_to_strike_now b row =
    refuse 7 (when (not (slip_due b.state))) (refuse 9 (when (is_unblamed b row)) (Ok tt))

-- the answer to an abandon with the block's own slip: 7 where there is none to give
abbrev pub answer_to_abandon_now : Contents → Result (Unit {0}) RefusalCase
answer_to_abandon_now b = refuse 7 (when (not (slip_due b.state))) (Ok tt)

-- the later answer, where an earlier call was accepted, and else its refusal
abbrev pub after_accepted : Result ℕ RefusalCase → Result Case RefusalCase → Result Case RefusalCase
after_accepted (Ok n) later = later
after_accepted (Err e) later = Err e

-- the answer to a take, and where it is accepted to a settle after it, whose run ends so
abbrev pub answer_to_both : Operations → Contents → Row → ℕ → Case → Result Case RefusalCase
answer_to_both K b r words outcome =
    after_accepted (answer_to_take K b r) (answer_to_settle (with_row b r) words outcome)

-- the block has had some use since it was made
abbrev pub WasUsed : Operations → Contents → Type 0
WasUsed K b = (m : ℕ) × (calls : Use) × Had K m calls b

-- what is shown, where anything is, is a choice of all minutes that satisfies this frame too
abbrev pub ShowsWith : Operations → Contents → Row → Type 0
ShowsWith K b r =
    (c code : ℕ) → shown_at b c ≡ Some code →
    (x : ℕ → ℕ) × IsChoice K b.system.width x
    × ((d : ℕ) → d < b.system.width → shown_at b d ≡ Some (x d)) × Satisfies K r x
