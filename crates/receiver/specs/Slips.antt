-- Slips. Assumes nothing.
use Rattle.std.specs.Prelude.{ℕ, IsTrue, Result}
use Rattle.std.specs.Result.{result_map_both}
use Rattle.frame.specs.Refusals.{RefusalCase, refusal_case}
use Rattle.receiver.specs.declared.slips.Slip.{Slip}
use Rattle.receiver.specs.declared.slips.Unspent.{Unspent}

-- the name that a slip bears
abbrev pub slip_name : Slip → ℕ
slip_name slip = slip.name

-- a slip has been spent, by a strike, a return or an abandon
abbrev pub IsSpent : Slip → Type 0
IsSpent slip = IsTrue slip.spent

-- an answer with its refusal as the table has it, without the slip that it hands back
abbrev pub unspent_numbered : Result (Unit {0}) Unspent → Result (Unit {0}) RefusalCase
unspent_numbered = result_map_both (λ u. u) (λ unspent. refusal_case unspent.refusal)
