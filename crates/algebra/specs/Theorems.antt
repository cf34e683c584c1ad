-- The theorems of linear algebra that hold over every field, as statements. Assumes nothing.
use Rattle.std.specs.Prelude.{◌≡◌, ◌≢◌, ℕ, suc, ◌%◌, ◌<◌, ◌≤◌, ◌↔◌, List, length, slice_index}
use Rattle.field.specs.Operations.{Operations}
use Rattle.field.specs.Sums.{Σ}
use Rattle.algebra.specs.Places.{Distinct, Outside}
use Rattle.algebra.specs.Vectors.{δ, dot, mul_vec, vec_mul, rows_at}
use Rattle.algebra.specs.Spans.{InSpan, Independent, Solves, SolvesAll}
use Rattle.algebra.specs.Pivots.{Pivots, PivotsOf, no_pivots, grow, schur, row_coefficients, column_coefficients, solution, multipliers, kernel_vector}
use Rattle.algebra.specs.Profiles.{RankProfile, LeastLongest, Elimination, eliminate, pivot_rows, rank_profile, rank}

-- sums are linear, change places, pick one place out, and count their summands by the remainders
pub record SumLaws (K : Operations) : Type 0 where
  pub plus : (n : ℕ) (f g : ℕ → ℕ) → Σ K n (λ k. K.plus (f k) (g k)) ≡ K.plus (Σ K n f) (Σ K n g)
  pub times : (n a : ℕ) (f : ℕ → ℕ) → Σ K n (λ k. K.times a (f k)) ≡ K.times a (Σ K n f)
  pub negative : (n : ℕ) (f : ℕ → ℕ) → Σ K n (λ k. K.negative (f k)) ≡ K.negative (Σ K n f)
  pub exchange : (n m : ℕ) (f : ℕ → ℕ → ℕ) → Σ K n (λ i. Σ K m (λ j. f i j)) ≡ Σ K m (λ j. Σ K n (λ i. f i j))
  pub one_place : (n k : ℕ) (f : ℕ → ℕ) → k < n → Σ K n (λ l. K.times (f l) (δ k l)) ≡ f k % K.q
  pub remainders : (n : ℕ) (f g : ℕ → ℕ) → ((k : ℕ) → k < n → f k % K.q ≡ g k % K.q) → Σ K n f ≡ Σ K n g

-- products are linear in each vector, and u · (Ax) = (uA) · x
pub record ProductLaws (K : Operations) : Type 0 where
  pub comm : (n : ℕ) (x y : ℕ → ℕ) → dot K n x y ≡ dot K n y x
  pub mul_vec_linear : (m : ℕ) (A : ℕ → ℕ → ℕ) (x y : ℕ → ℕ) (c i : ℕ) → mul_vec K m A (λ j. K.plus (x j) (K.times c (y j))) i ≡ K.plus (mul_vec K m A x i) (K.times c (mul_vec K m A y i))
  pub vec_mul_linear : (n : ℕ) (A : ℕ → ℕ → ℕ) (u v : ℕ → ℕ) (c j : ℕ) → vec_mul K n (λ i. K.plus (u i) (K.times c (v i))) A j ≡ K.plus (vec_mul K n u A j) (K.times c (vec_mul K n v A j))
  pub assoc : (n m : ℕ) (u : ℕ → ℕ) (A : ℕ → ℕ → ℕ) (x : ℕ → ℕ) → dot K n u (mul_vec K m A x) ≡ dot K m (vec_mul K n u A) x

pub record SpanLaws (K : Operations) : Type 0 where
  pub own_row : (m s k : ℕ) (R : ℕ → ℕ → ℕ) → k < s → InSpan K m s R (R k)
  pub trans : (m s r : ℕ) (R X : ℕ → ℕ → ℕ) (x : ℕ → ℕ) → InSpan K m s R x → ((k : ℕ) → k < s → InSpan K m r X (R k)) → InSpan K m r X x
  -- of independent rows none is a combination of those before it
  pub independent : (m s k : ℕ) (R : ℕ → ℕ → ℕ) → Independent K m s R → k < s → InSpan K m k R (R k) → ⊥
  -- the exchange lemma: independent rows within the span of r rows are at most r
  pub exchange : (m s r : ℕ) (X Y : ℕ → ℕ → ℕ) → Independent K m s Y → ((k : ℕ) → k < s → InSpan K m r X (Y k)) → s ≤ r

-- there may be no pivots, and where the Schur complement is not 0 its row and column are a pivot more
pub record GrowthLaws (K : Operations) (n m : ℕ) (A : ℕ → ℕ → ℕ) : Type 0 where
  pub start : PivotsOf K n m A no_pivots
  pub grow : (S : Pivots) (i j : ℕ) → PivotsOf K n m A S → i < n → j < m → schur K A S i j ≢ 0 → PivotsOf K n m A (grow K A S i j)

-- pivot rows are independent; pivot rows differ, and so do pivot columns; there are no more than rows and than columns
pub record PivotLaws (K : Operations) (n m : ℕ) (A : ℕ → ℕ → ℕ) (S : Pivots) : Type 0 where
  pub independent : Independent K m S.count (rows_at A S.row)
  pub rows_differ : Distinct S.count S.row
  pub columns_differ : Distinct S.count S.column
  pub at_most_rows : S.count ≤ n
  pub at_most_columns : S.count ≤ m

-- there are no more than the rank, and where there are as many they span all rows
pub record RankLaws (K : Operations) (n m : ℕ) (A : ℕ → ℕ → ℕ) (S : Pivots) : Type 0 where
  pub at_most : S.count ≤ rank K n m A
  pub spanned : S.count ≡ rank K n m A → (i : ℕ) → i < n → InSpan K m S.count (rows_at A S.row) (A i)

-- the Schur complement: 0 at pivot columns and in pivot rows, and in all of another row just where that is a combination of them
pub record SchurLaws (K : Operations) (n m : ℕ) (A : ℕ → ℕ → ℕ) (S : Pivots) : Type 0 where
  pub pivot_column : (i k : ℕ) → k < S.count → schur K A S i (S.column k) ≡ 0
  pub pivot_row : (k j : ℕ) → k < S.count → j < m → schur K A S (S.row k) j ≡ 0
  pub combination : (i : ℕ) → InSpan K m S.count (rows_at A S.row) (A i) ↔ ((j : ℕ) → j < m → schur K A S i j ≡ 0)
  -- it is what the multipliers of row i make of column j, and what row i makes of the vector for column j
  pub multipliers : (i j : ℕ) → i < n → vec_mul K n (multipliers K A S i) A j ≡ schur K A S i j
  pub kernel_vector : (i j : ℕ) → j < m → mul_vec K m A (kernel_vector K A S j) i ≡ schur K A S i j

-- what pivots solve
pub record SolutionLaws (K : Operations) (n m : ℕ) (A : ℕ → ℕ → ℕ) (S : Pivots) : Type 0 where
  -- x has B times the sums at the pivot columns and 0 elsewhere, and satisfies the pivot rows
  pub solution_at_pivots : (b : ℕ → ℕ) (k : ℕ) → k < S.count → solution K b S (S.column k) ≡ mul_vec K S.count S.inverse (λ l. b (S.row l)) k
  pub solution_elsewhere : (b : ℕ → ℕ) (j : ℕ) → Outside S.count S.column j → solution K b S j ≡ 0
  pub solution_solves : (b : ℕ → ℕ) (k : ℕ) → k < S.count → Solves K m A b (solution K b S) (S.row k)
  -- for a row i that is no pivot row, u has 1 there, −vB at the pivot rows and 0 elsewhere
  pub multipliers_own : (i : ℕ) → Outside S.count S.row i → multipliers K A S i i ≡ 1
  pub multipliers_at_pivots : (i : ℕ) → Outside S.count S.row i → (k : ℕ) → k < S.count → multipliers K A S i (S.row k) ≡ K.negative (row_coefficients K A S i k)
  pub multipliers_elsewhere : (i r : ℕ) → i ≢ r → Outside S.count S.row r → multipliers K A S i r ≡ 0
  -- u · b is what x leaves of row i
  pub multipliers_sums : (b : ℕ → ℕ) (i : ℕ) → i < n → dot K n (multipliers K A S i) b ≡ K.plus (b i) (K.negative (mul_vec K m A (solution K b S) i))

-- where a combination of the rows is 0 and that of the sums is not, nothing satisfies all rows
abbrev pub NoSolution : Operations → Type 0
NoSolution K = (n m : ℕ) (A : ℕ → ℕ → ℕ) (b u : ℕ → ℕ) → ((j : ℕ) → j < m → vec_mul K n u A j ≡ 0) → dot K n u b ≢ 0 → (x : ℕ → ℕ) → SolvesAll K n m A b x → ⊥

-- choices that satisfy the pivot rows are equal if they agree outside the pivot columns; with as many pivots as columns at most
-- one choice satisfies all rows
pub record UniquenessLaws (K : Operations) (n m : ℕ) (A : ℕ → ℕ → ℕ) (S : Pivots) : Type 0 where
  pub determined : (b x y : ℕ → ℕ) →
      ((k : ℕ) → k < S.count → Solves K m A b x (S.row k)) →
      ((k : ℕ) → k < S.count → Solves K m A b y (S.row k)) →
      ((j : ℕ) → j < m → Outside S.count S.column j → x j % K.q ≡ y j % K.q) →
      (j : ℕ) → j < m → x j % K.q ≡ y j % K.q
  pub unique : S.count ≡ m → (b x y : ℕ → ℕ) → SolvesAll K n m A b x → SolvesAll K n m A b y → (j : ℕ) → j < m → x j % K.q ≡ y j % K.q

-- for a column j
pub record KernelLaws (K : Operations) (n m : ℕ) (A : ℕ → ℕ → ℕ) (S : Pivots) (j : ℕ) : Type 0 where
  -- that is no pivot column, the vector has 1 there, −Ba at the pivot columns and 0 elsewhere
  pub own : Outside S.count S.column j → kernel_vector K A S j j ≡ 1
  pub at_pivots : Outside S.count S.column j → (k : ℕ) → k < S.count → kernel_vector K A S j (S.column k) ≡ K.negative (column_coefficients K A S j k)
  pub elsewhere : (c : ℕ) → j ≢ c → Outside S.count S.column c → kernel_vector K A S j c ≡ 0
  -- where the pivot rows span all rows, these make 0 of it, and whatever satisfies all rows still does with any multiple of it added
  pub kernel : ((i : ℕ) → i < n → InSpan K m S.count (rows_at A S.row) (A i)) → j < m → (i : ℕ) → i < n → mul_vec K m A (kernel_vector K A S j) i ≡ 0
  pub free : ((i : ℕ) → i < n → InSpan K m S.count (rows_at A S.row) (A i)) → j < m → (b x : ℕ → ℕ) (c : ℕ) → SolvesAll K n m A b x → SolvesAll K n m A b (λ k. K.plus (x k) (K.times c (kernel_vector K A S j k)))

-- an elimination, row by row
pub record EliminationLaws (K : Operations) (m : ℕ) (A : ℕ → ℕ → ℕ) : Type 0 where
  pub start : Elimination K m A 0 no_pivots
  pub stay : (i : ℕ) (S : Pivots) → Elimination K m A i S → ((j : ℕ) → j < m → schur K A S i j ≡ 0) → Elimination K m A (suc i) S
  pub grow : (i : ℕ) (S : Pivots) → Elimination K m A i S → (j : ℕ) → j < m → schur K A S i j ≢ 0 → Elimination K m A (suc i) (grow K A S i j)
  -- the definition is one
  pub run : (i : ℕ) → Elimination K m A i (eliminate K m A i)
  -- after i rows the pivot rows are the profile of these, and span them
  pub profile : (i : ℕ) (S : Pivots) → Elimination K m A i S → RankProfile K i m A (pivot_rows S)
  pub spans : (i : ℕ) (S : Pivots) → Elimination K m A i S → (r : ℕ) → r < i → InSpan K m S.count (rows_at A S.row) (A r)

-- each matrix has one row rank profile; it is the lexicographically least of the longest lists of independent rows, spans all
-- rows, and is as long as the rank
pub record ProfileLaws (K : Operations) (n m : ℕ) (A : ℕ → ℕ → ℕ) : Type 0 where
  pub computed : RankProfile K n m A (rank_profile K n m A)
  pub unique : (xs ys : List ℕ) → RankProfile K n m A xs → RankProfile K n m A ys → xs ≡ ys
  pub least_longest : (xs : List ℕ) → RankProfile K n m A xs ↔ LeastLongest K n m A xs
  pub spans : (xs : List ℕ) → RankProfile K n m A xs → (r : ℕ) → r < n → InSpan K m (length xs) (rows_at A (slice_index xs)) (A r)
  pub rank_length : (xs : List ℕ) → RankProfile K n m A xs → length xs ≡ rank K n m A
