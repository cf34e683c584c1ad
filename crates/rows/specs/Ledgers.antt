-- What the calls of a ledger answer and leave. Assumes nothing.
use Rattle.std.specs.Prelude.{ℕ, ◌<◌, ◌≤◌, List, [], ◌∷◌, ◌++◌, length, Ok, Err, Option, Result}
use Rattle.std.specs.Prelude.{min, nat_le, slice_set}
use Rattle.std.specs.List.{position_from}
use Rattle.frame.specs.declared.terms.Term.{Term}
use Rattle.frame.specs.declared.frames.Frame.{Frame}
use Rattle.frame.specs.Frames.{minute_at}
use Rattle.frame.specs.Parts.{sum_of, terms_of}
use Rattle.frame.specs.Refusals.{RefusalCase}
use Rattle.frame.specs.Orders.{Order, no_rule, rule, AtStart, refuse, when}
use Rattle.rows.specs.declared.sizes.TheConstants.{MOST_ROWS}
use Rattle.rows.specs.Systems.{Row, System, empty_row}

-- a frame as a row
abbrev pub row_of : Frame → Row
row_of f = record { sum = sum_of f; terms = terms_of f }

-- the number of the first term, counted from `at`, whose minute is not below m
abbrev pub first_beyond : ℕ → ℕ → List Term → Option ℕ
first_beyond m at ts = position_from (λ t. nat_le m t.minute) at ts

-- the answer to a frame's terms where there are m minutes and n rows: the first term beyond the
-- width is refused before a full ledger
abbrev pub admit_answer : ℕ → ℕ → ℕ → List Term → Result ℕ RefusalCase
admit_answer m n limit ts = refuse 2 (first_beyond m 0 ts) (refuse 5 (when (nat_le limit n)) (Ok n))

abbrev pub take_answer : System → ℕ → Row → Result ℕ RefusalCase
take_answer S limit r = admit_answer S.width (length S.rows) limit r.terms

-- a term's minute is not below the width
abbrev pub BeyondWidth : ℕ → List Term → ℕ → Type 0
BeyondWidth m ts k = (k < length ts) × (m ≤ minute_at ts k)

-- the order in which a frame is refused where there are m minutes and n rows: 2 for a minute beyond
-- the width, then 5 for a full ledger
abbrev pub admit_order : ℕ → ℕ → ℕ → List Term → Order
admit_order m n limit ts = rule 2 (BeyondWidth m ts) (rule 5 (AtStart (limit ≤ n)) no_rule)

abbrev pub take_order : System → ℕ → List Term → Order
take_order S limit ts = admit_order S.width (length S.rows) limit ts

abbrev pub appended : System → Row → System
appended S r = record { width = S.width; rows = S.rows ++ (r ∷ []) }

-- what take leaves, by its answer
abbrev pub after_take : {E : Type 0} → Result ℕ E → System → Row → System
after_take (Ok n) S r = appended S r
after_take (Err e) S r = S

abbrev pub strike_answer : System → ℕ → Result (Unit {0}) RefusalCase
strike_answer S i = refuse 9 (when (nat_le (length S.rows) i)) (Ok tt)

abbrev pub struck : System → ℕ → System
struck S i = record { width = S.width; rows = slice_set S.rows i empty_row }

-- what strike leaves, by its answer
abbrev pub after_strike : {E : Type 0} → Result (Unit {0}) E → System → ℕ → System
after_strike (Ok u) S i = struck S i
after_strike (Err e) S i = S

abbrev pub cleared : System → System
cleared S = record { width = S.width; rows = [] }

-- the smallest of some limits and of 96
abbrev pub smallest_of : List ℕ → ℕ
smallest_of [] = MOST_ROWS
smallest_of (limit ∷ limits) = min limit (smallest_of limits)

-- a ledger's limit
pub record LimitInRange (limit : ℕ) : Type 0 where
  pub some : 1 ≤ limit
  pub most : limit ≤ MOST_ROWS
