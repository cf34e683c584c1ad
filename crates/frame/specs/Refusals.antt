-- The table of refusals: each case's number, its place and its layer. Assumes nothing.
use Rattle.std.specs.Prelude.{ℕ, cond, Result, nat_le}
use Rattle.std.specs.Result.{result_map_both}
use Rattle.frame.specs.declared.refusals.Refusal.{Refusal}
use Rattle.frame.specs.declared.refusals.Refusal.TheVariants.{Disputed, MinuteBeyondWidth, NoCode}
use Rattle.frame.specs.declared.refusals.Refusal.TheVariants.{MinuteNoted, LedgerFull}
use Rattle.frame.specs.declared.refusals.Refusal.TheVariants.{SpaceTooShort, NoSlipToGive}
use Rattle.frame.specs.declared.refusals.Refusal.TheVariants.{WrongSlip, NoSuchRow, TermCount}
use Rattle.frame.specs.declared.refusals.Refusal.TheVariants.{MinuteOrder, ZeroWeight, UnknownLine}
use Rattle.frame.specs.declared.refusals.Refusal.TheVariants.{FieldCount, BadField, SizeOutOfRange}
use Rattle.frame.specs.declared.refusals.Layer.{Layer}
use Rattle.frame.specs.declared.refusals.Layer.TheVariants.{Line, Frame, Block}

-- a refusal as the table has it: its number, and its place, which is a term's number, the offset of
-- a field's first byte, or 0
pub record RefusalCase : Type 0 where
  pub number : ℕ
  pub place : ℕ

abbrev pub refused : ℕ → ℕ → RefusalCase
refused n p = record { number = n; place = p }

abbrev pub refusal_case : Refusal → RefusalCase
refusal_case Disputed = refused 1 0
refusal_case (MinuteBeyondWidth term) = refused 2 term
refusal_case (NoCode term) = refused 3 term
refusal_case MinuteNoted = refused 4 0
refusal_case LedgerFull = refused 5 0
refusal_case SpaceTooShort = refused 6 0
refusal_case NoSlipToGive = refused 7 0
refusal_case WrongSlip = refused 8 0
refusal_case NoSuchRow = refused 9 0
refusal_case TermCount = refused 10 0
refusal_case (MinuteOrder term) = refused 11 term
refusal_case (ZeroWeight term) = refused 12 term
refusal_case UnknownLine = refused 13 0
refusal_case FieldCount = refused 14 0
refusal_case (BadField byte) = refused 15 byte
refusal_case SizeOutOfRange = refused 16 0

-- an answer with its refusal as the table has it; what is accepted is shown by f
abbrev pub numbered_as : {X Y : Type 0} → (X → Y) → Result X Refusal → Result Y RefusalCase
numbered_as f = result_map_both f refusal_case

-- the same, with what is accepted as it is
abbrev pub numbered : {X : Type 0} → Result X Refusal → Result X RefusalCase
numbered = numbered_as (λ x. x)

-- the same, without what is accepted
abbrev pub refusal_only : {X : Type 0} → Result X Refusal → Result (Unit {0}) RefusalCase
refusal_only = numbered_as (λ _. tt)

abbrev pub refusal_number : Refusal → ℕ
refusal_number r = (refusal_case r).number

abbrev pub refusal_place : Refusal → ℕ
refusal_place r = (refusal_case r).place

-- 13 to 15 are the line's, 10 to 12 the frame's, all others the block's
abbrev pub layer_at : ℕ → Layer
layer_at n = cond (nat_le n 9) Block (cond (nat_le n 12) Frame (cond (nat_le n 15) Line Block))

abbrev pub refusal_layer : Refusal → Layer
refusal_layer r = layer_at (refusal_number r)
