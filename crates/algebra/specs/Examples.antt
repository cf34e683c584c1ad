-- The definitions and theorems at small matrices modulo 65521. Assumes nothing.
use Rattle.std.specs.Prelude.{◌≡◌, ℕ, ◌%◌, ◌<◌, List, [], ◌∷◌, slice_index, slice_index_or}
use Rattle.field.specs.Operations.{Operations}
use Rattle.field.specs.Modulo.{modulo}
use Rattle.algebra.specs.Vectors.{dot, mul_vec}
use Rattle.algebra.specs.Spans.{SolvesAll}
use Rattle.algebra.specs.Pivots.{Pivots, PivotsOf, solution, multipliers, kernel_vector}
use Rattle.algebra.specs.Profiles.{RankProfile, IndependentRows, LeastLongest, eliminate, rank}

-- lists of numbers as the rows of a matrix, 0 past their ends
abbrev pub matrix : List (List ℕ) → ℕ → ℕ → ℕ
matrix rows i j = slice_index (slice_index_or rows i []) j

abbrev pub prime : Operations
prime = modulo 65521

-- the second row is twice the first
abbrev pub three_rows : ℕ → ℕ → ℕ
three_rows = matrix ((1 ∷ 1 ∷ []) ∷ (2 ∷ 2 ∷ []) ∷ (0 ∷ 1 ∷ []) ∷ [])

-- the second pivot is 1 / 2
abbrev pub two_rows : ℕ → ℕ → ℕ
two_rows = matrix ((1 ∷ 1 ∷ []) ∷ (1 ∷ 32762 ∷ []) ∷ [])

-- what an elimination of the first i rows of a matrix with two columns ends with
abbrev pub after : (ℕ → ℕ → ℕ) → ℕ → Pivots
after A i = eliminate prime 2 A i

-- the inverse that two pivots hold, row by row
abbrev pub entries : Pivots → List ℕ
entries S = S.inverse 0 0 ∷ S.inverse 0 1 ∷ S.inverse 1 0 ∷ S.inverse 1 1 ∷ []

-- sums of the three rows that −2 and 7 satisfy, and sums that nothing satisfies
abbrev pub sums : ℕ → ℕ
sums = slice_index (5 ∷ 10 ∷ 7 ∷ [])

abbrev pub contradictory : ℕ → ℕ
contradictory = slice_index (5 ∷ 11 ∷ 7 ∷ [])

-- what the definitions give
pub record Computed : Type 0 where
  pub rank_two : rank prime 3 2 three_rows ≡ 2
  -- the inverse of (1,1), (0,1) is (1,−1), (0,1), and that of (1,1), (1,3/2) is (3,−2), (−2,2)
  pub inverse : entries (after three_rows 3) ≡ 1 ∷ 65520 ∷ 0 ∷ 1 ∷ []
  pub all_blocks : entries (after two_rows 2) ≡ 3 ∷ 65519 ∷ 65519 ∷ 2 ∷ []
  pub solution : solution prime sums (after three_rows 3) 0 ∷ solution prime sums (after three_rows 3) 1 ∷ [] ≡ 65519 ∷ 7 ∷ []
  -- row 1 less twice row 0, which leaves 1 of the other sums
  pub combination : multipliers prime three_rows (after three_rows 3) 1 0 ∷ multipliers prime three_rows (after three_rows 3) 1 1 ∷ multipliers prime three_rows (after three_rows 3) 1 2 ∷ [] ≡ 65519 ∷ 1 ∷ 0 ∷ []
  pub left : dot prime 3 (multipliers prime three_rows (after three_rows 3) 1) contradictory ≡ 1
  pub kernel_vector : kernel_vector prime three_rows (after three_rows 2) 1 0 ∷ kernel_vector prime three_rows (after three_rows 2) 1 1 ∷ [] ≡ 65520 ∷ 1 ∷ []

-- what the theorems say there
pub record Applied : Type 0 where
  pub profile : RankProfile prime 3 2 three_rows (0 ∷ 2 ∷ [])
  pub least_longest : LeastLongest prime 3 2 three_rows (0 ∷ 2 ∷ [])
  -- a row's double and the row are not independent, nor is a row twice, nor are all three
  pub doubled : IndependentRows prime 3 2 three_rows (1 ∷ 0 ∷ []) → ⊥
  pub repeated : IndependentRows prime 3 2 three_rows (2 ∷ 2 ∷ []) → ⊥
  pub too_many : IndependentRows prime 3 2 three_rows (2 ∷ 0 ∷ 1 ∷ []) → ⊥
  -- these are pivots, and just one choice satisfies the sums
  pub pivots : PivotsOf prime 3 2 three_rows (after three_rows 3)
  pub solved : SolvesAll prime 3 2 three_rows sums (solution prime sums (after three_rows 3))
  pub only : (x : ℕ → ℕ) → SolvesAll prime 3 2 three_rows sums x → x 0 % 65521 ∷ x 1 % 65521 ∷ [] ≡ 65519 ∷ 7 ∷ []
  -- none satisfies the other sums
  pub refuted : (x : ℕ → ℕ) → SolvesAll prime 3 2 three_rows contradictory x → ⊥
  -- the first two rows make (−1,1) zero
  pub kernel : (i : ℕ) → i < 2 → mul_vec prime 2 three_rows (kernel_vector prime three_rows (after three_rows 2) 1) i ≡ 0
