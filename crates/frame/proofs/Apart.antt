-- The variants of a result are apart, and so are refusals by their numbers and places. Assumes nothing.
use Rattle.std.proofs.Common.{◌≡◌, ℕ, ◌==◌, cond, Ok, Err, Result, refl, sym, ap, ◌∙◌, arith}
use Rattle.frame.specs.declared.refusals.Refusal.{Refusal}
use Rattle.frame.specs.declared.refusals.Refusal.TheVariants.{Disputed, MinuteBeyondWidth, NoCode, MinuteNoted, LedgerFull, SpaceTooShort, NoSlipToGive, WrongSlip, NoSuchRow, TermCount, MinuteOrder, ZeroWeight, UnknownLine, FieldCount, BadField, SizeOutOfRange}
use Rattle.frame.specs.Refusals.{RefusalCase, refusal_case}

pub err_ok : {X E : Type 0} (e : E) (x : X) → ◌≡◌ {A = Result X E} (Err e) (Ok x) → ⊥
err_ok e x h = let z : ◌≡◌ {A = ℕ} 0 1 = cc in omega arith

-- the refusal with a number and a place
abbrev later : ℕ → ℕ → Refusal
later n p = cond (n == 10) TermCount (cond (n == 11) (MinuteOrder p) (cond (n == 12) (ZeroWeight p) (cond (n == 13) UnknownLine (cond (n == 14) FieldCount (cond (n == 15) (BadField p) SizeOutOfRange)))))

abbrev from_row : ℕ → ℕ → Refusal
from_row n p = cond (n == 1) Disputed (cond (n == 2) (MinuteBeyondWidth p) (cond (n == 3) (NoCode p) (cond (n == 4) MinuteNoted (cond (n == 5) LedgerFull (cond (n == 6) SpaceTooShort (cond (n == 7) NoSlipToGive (cond (n == 8) WrongSlip (cond (n == 9) NoSuchRow (later n p)))))))))

-- is the refusal itself
own_row : (r : Refusal) → from_row (refusal_case r).number (refusal_case r).place ≡ r
own_row Disputed = refl
own_row (MinuteBeyondWidth term) = refl
own_row (NoCode term) = refl
own_row MinuteNoted = refl
own_row LedgerFull = refl
own_row SpaceTooShort = refl
own_row NoSlipToGive = refl
own_row WrongSlip = refl
own_row NoSuchRow = refl
own_row TermCount = refl
own_row (MinuteOrder term) = refl
own_row (ZeroWeight term) = refl
own_row UnknownLine = refl
own_row FieldCount = refl
own_row (BadField byte) = refl
own_row SizeOutOfRange = refl

pub refusals_apart : (a b : Refusal) → refusal_case a ≡ refusal_case b → a ≡ b
refusals_apart a b e = sym (own_row a) ∙ ap (λ (c : RefusalCase). from_row c.number c.place) e ∙ own_row b
