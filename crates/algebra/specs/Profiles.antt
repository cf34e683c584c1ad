-- The row rank profile of a matrix, and the elimination that finds it. Assumes nothing.
use Rattle.std.specs.Prelude.{◌≡◌, ◌≢◌, ℕ, zero, suc, ◌<◌, ◌≤◌, ◌⊎◌, ◌↔◌, ◌==◌, not, List, length, map, Some, None, Option, slice_index}
use Rattle.std.specs.List.{Contains, All, range_with_len}
use Rattle.std.specs.List.Sorted.{IsStrictlyIncreasing}
use Rattle.std.specs.Ordering.{nat_cmp}
use Rattle.std.specs.declared.cmp.Ordering.TheVariants.{Greater}
use Rattle.std.specs.Cmp.Lexicographic.{slice_cmp}
use Rattle.field.specs.Operations.{Operations, first_from}
use Rattle.algebra.specs.Places.{Among}
use Rattle.algebra.specs.Vectors.{rows_at}
use Rattle.algebra.specs.Spans.{InSpan, Independent}
use Rattle.algebra.specs.Pivots.{Pivots, PivotsOf, no_pivots, schur, grow}

-- row i, of m places, is no combination of the rows before it
abbrev pub InProfile : Operations → ℕ → (ℕ → ℕ → ℕ) → ℕ → Type 0
InProfile K m A i = InSpan K m i A (A i) → ⊥

-- xs is the row rank profile of the n × m matrix A: the rows that are no combinations of those before them, rising
pub record RankProfile (K : Operations) (n m : ℕ) (A : ℕ → ℕ → ℕ) (xs : List ℕ) : Type 0 where
  pub rising : IsStrictlyIncreasing xs
  pub members : (i : ℕ) → Contains xs i ↔ ((i < n) × InProfile K m A i)

-- a list of row numbers, in any order and perhaps with repeats, names independent rows
pub record IndependentRows (K : Operations) (n m : ℕ) (A : ℕ → ℕ → ℕ) (ys : List ℕ) : Type 0 where
  pub below : All (λ i. i < n) ys
  pub independent : Independent K m (length ys) (rows_at A (slice_index ys))

-- the lexicographically least of the longest independent lists
pub record LeastLongest (K : Operations) (n m : ℕ) (A : ℕ → ℕ → ℕ) (xs : List ℕ) : Type 0 where
  pub independent : IndependentRows K n m A xs
  pub longest : (ys : List ℕ) → IndependentRows K n m A ys → length ys ≤ length xs
  pub least : (ys : List ℕ) → IndependentRows K n m A ys → length ys ≡ length xs → slice_cmp nat_cmp xs ys ≢ Greater

-- the first column where row i is not what the pivot rows give
abbrev pub fresh_column : Operations → ℕ → (ℕ → ℕ → ℕ) → Pivots → ℕ → Option ℕ
fresh_column K m A S i = first_from (λ j. not (schur K A S i j == 0)) m 0

-- the elimination of row i: a pivot more at that column, or nothing new
unfoldable pub with_row : Operations → ℕ → (ℕ → ℕ → ℕ) → Pivots → ℕ → Pivots
with_row K m A S i = elim (fresh_column K m A S i) [ None ↦ S | Some j ↦ grow K A S i j ]

-- the pivots of the first i rows
unfoldable pub eliminate : Operations → ℕ → (ℕ → ℕ → ℕ) → ℕ → Pivots
eliminate K m A zero = no_pivots
eliminate K m A (suc i) = with_row K m A (eliminate K m A i) i

-- what an elimination keeps, after the first i rows: each is a pivot row or a combination of the rows before it
pub record Elimination (K : Operations) (m : ℕ) (A : ℕ → ℕ → ℕ) (i : ℕ) (S : Pivots) : Type 0 where
  pub pivots : PivotsOf K i m A S
  pub rising : (k l : ℕ) → k < l → l < S.count → S.row k < S.row l
  pub others : (r : ℕ) → r < i → Among S.count S.row r ⊎ InSpan K m r A (A r)

-- the pivot rows as a list
abbrev pub pivot_rows : Pivots → List ℕ
pivot_rows S = map S.row (range_with_len 0 S.count)

-- the row rank profile of an n × m matrix, computed
abbrev pub rank_profile : Operations → ℕ → ℕ → (ℕ → ℕ → ℕ) → List ℕ
rank_profile K n m A = pivot_rows (eliminate K m A n)

-- its rank
abbrev pub rank : Operations → ℕ → ℕ → (ℕ → ℕ → ℕ) → ℕ
rank K n m A = (eliminate K m A n).count
