-- What rows mean: a linear system with up to 64 unknowns and up to 96 equations. Assumes nothing.
use Rattle.std.specs.Prelude.{ℕ, ◌<◌, ◌≤◌, List, [], length, Option, slice_index_or}
use Rattle.std.specs.List.{slice_get}
use Rattle.std.specs.Option.{option_map, option_and_then}
use Rattle.frame.specs.declared.terms.Term.{Term}
use Rattle.frame.specs.Frames.{minute_at, weight_at}
use Rattle.rows.specs.declared.sizes.TheConstants.{MOST_MINUTES, MOST_ROWS}

-- an equation: the weights of the terms, times the codes at their minutes, add up to the sum
pub record Row : Type 0 where
  pub sum : ℕ
  pub terms : List Term

-- the number of minutes, and the rows in order
pub record System : Type 0 where
  pub width : ℕ
  pub rows : List Row

-- a row with nothing in it
abbrev pub empty_row : Row
empty_row = record { sum = 0; terms = [] }

abbrev pub row_at : System → ℕ → Row
row_at S i = slice_index_or S.rows i empty_row

-- the sums
abbrev pub sum_at : System → ℕ → ℕ
sum_at S i = (row_at S i).sum

-- a row for a width: its minutes are below the width and rise strictly, and all its numbers are
-- words of 16 bits
pub record WellFormedRow (m : ℕ) (r : Row) : Type 0 where
  pub word : r.sum < 65536
  pub below : (k : ℕ) → k < length r.terms → minute_at r.terms k < m
  pub rising : (j k : ℕ) → j < k → k < length r.terms → minute_at r.terms j < minute_at r.terms k
  pub words : (k : ℕ) → k < length r.terms → weight_at r.terms k < 65536

-- what every rows keep
pub record WellFormed (S : System) : Type 0 where
  pub some_minutes : 1 ≤ S.width
  pub few_minutes : S.width ≤ MOST_MINUTES
  pub few_rows : length S.rows ≤ MOST_ROWS
  pub each : (i : ℕ) → i < length S.rows → WellFormedRow S.width (row_at S i)

-- the reading calls: a row or a term that does not exist gives none
abbrev pub term_count_of : System → ℕ → Option ℕ
term_count_of S i = option_map (λ r. length r.terms) (slice_get S.rows i)

abbrev pub term_of : System → ℕ → ℕ → Option Term
term_of S i k = option_and_then (λ r. slice_get r.terms k) (slice_get S.rows i)

abbrev pub sum_of_row : System → ℕ → Option ℕ
sum_of_row S i = option_map (λ r. r.sum) (slice_get S.rows i)
