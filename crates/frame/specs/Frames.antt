-- What makes terms a frame, as a check and in plain words. Assumes nothing.
use Rattle.std.specs.Prelude.{◌≡◌, ℕ, zero, suc, ◌<◌, ◌≤◌, ◌⊎◌, ◌||◌, cond, List, [], ◌∷◌, length}
use Rattle.std.specs.Prelude.{Some, None, Ok, Option, Result, ◌==◌, ◌≢◌, nat_le, nat_lt}
use Rattle.std.specs.Prelude.{slice_index_or}
use Rattle.std.specs.List.{position_from}
use Rattle.std.proofs.Props.{props}
use Rattle.frame.specs.declared.terms.Term.{Term}
use Rattle.frame.specs.declared.checks.TheConstants.{MOST_TERMS, MINUTES}
use Rattle.frame.specs.Refusals.{RefusalCase}
use Rattle.frame.specs.Orders.{Order, no_rule, rule, AtStart, KeepsOrder, refuse, when}

-- what is read past the last term
abbrev pub no_term : Term
no_term = record { minute = 0; weight = 0 }

abbrev pub minute_at : List Term → ℕ → ℕ
minute_at ts k = (slice_index_or ts k no_term).minute

abbrev pub weight_at : List Term → ℕ → ℕ
weight_at ts k = (slice_index_or ts k no_term).weight

-- the number of the first term, counted from `at`, whose minute is over 63 or below `low`, which is
-- one more than the minute before
abbrev pub first_minute : ℕ → ℕ → List Term → Option ℕ
first_minute at low [] = None
first_minute at low (t ∷ ts) =
    cond (nat_lt t.minute MINUTES)
    (cond (nat_le low t.minute) (first_minute (suc at) (suc t.minute) ts) (Some at))
    (Some at)

-- the number of the first term, counted from `at`, whose weight is 0
abbrev pub first_weight : ℕ → List Term → Option ℕ
first_weight at ts = position_from (λ t. t.weight == 0) at ts

-- the check of a frame's terms: their number, then the minutes, then the weights
abbrev pub check : List Term → Result (Unit {0}) RefusalCase
check ts =
    refuse 10 (when (length ts == 0 || nat_lt MOST_TERMS (length ts)))
    (refuse 11 (first_minute 0 0 ts) (refuse 12 (first_weight 0 ts) (Ok tt)))

-- what is wrong with terms: there are none or too many
abbrev pub WrongCount : List Term → Type 0
WrongCount ts = (length ts ≡ 0) ⊎ (MOST_TERMS < length ts)

-- a term's minute does not rise: it is not over the one before
abbrev pub NotRising : List Term → ℕ → Type 0
NotRising ts zero = ⊥
NotRising ts (suc k) = minute_at ts (suc k) ≤ minute_at ts k

-- a term's minute is over 63 or does not rise
abbrev pub WrongMinute : List Term → ℕ → Type 0
WrongMinute ts k = (k < length ts) × ((MINUTES ≤ minute_at ts k) ⊎ NotRising ts k)

-- a term's weight is 0
abbrev pub WrongWeight : List Term → ℕ → Type 0
WrongWeight ts k = (k < length ts) × (weight_at ts k ≡ 0)

-- the order in which a frame's terms are refused: 10 for their number, then 11 for a minute, then
-- 12 for a weight
abbrev pub frame_order : List Term → Order
frame_order ts =
    rule 10 (AtStart (WrongCount ts)) (rule 11 (WrongMinute ts) (rule 12 (WrongWeight ts) no_rule))

-- what a frame's terms are
pub record FrameTerms (ts : List Term) : Type 0 where
  pub some : 1 ≤ length ts
  pub few : length ts ≤ MOST_TERMS
  pub below : (k : ℕ) → k < length ts → minute_at ts k < MINUTES
  pub rising : (j k : ℕ) → j < k → k < length ts → minute_at ts j < minute_at ts k
  pub weighted : (k : ℕ) → k < length ts → weight_at ts k ≢ 0
  pub words : (k : ℕ) → k < length ts → weight_at ts k < 65536

-- there is one proof of it at most
pub FrameTerms-prop : (ts : List Term) → IsProp (FrameTerms ts)
FrameTerms-prop ts = Prim.hlevel props

-- a check's answer refuses nothing just where the terms make a frame
pub record Decides (ts : List Term) (answer : Result (Unit {0}) RefusalCase) : Type 0 where
  pub sound : answer ≡ Ok tt → FrameTerms ts
  pub complete : FrameTerms ts → answer ≡ Ok tt
