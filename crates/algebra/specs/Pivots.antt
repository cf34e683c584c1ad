-- Pivots of a matrix: rows and columns where it has an inverse, what they solve, and how they grow. Assumes nothing.
use Rattle.std.specs.Prelude.{ℕ, suc}
use Rattle.field.specs.Operations.{Operations, inverse}
use Rattle.algebra.specs.Places.{Below}
use Rattle.algebra.specs.Vectors.{dot, mul_vec, vec_mul, submatrix, place, unit_minus, extend, bordered, Inverse}

-- as many rows as columns, and a matrix of that size; each may be anything past the count
pub record Pivots : Type 0 where
  pub count : ℕ
  pub row : ℕ → ℕ
  pub column : ℕ → ℕ
  pub inverse : ℕ → ℕ → ℕ

-- the matrix at the pivot rows and pivot columns has the inverse that is held
abbrev pub Inverts : Operations → (ℕ → ℕ → ℕ) → Pivots → Type 0
Inverts K A S = Inverse K S.count (submatrix A S.row S.column) S.inverse

-- pivots of an n × m matrix
pub record PivotsOf (K : Operations) (n m : ℕ) (A : ℕ → ℕ → ℕ) (S : Pivots) : Type 0 where
  pub rows_below : Below S.count S.row n
  pub columns_below : Below S.count S.column m
  pub inverts : Inverts K A S

-- vB, where v is row i at the pivot columns: the combination of the pivot rows that agrees with row i there
abbrev pub row_coefficients : Operations → (ℕ → ℕ → ℕ) → Pivots → ℕ → ℕ → ℕ
row_coefficients K A S i = vec_mul K S.count (λ k. A i (S.column k)) S.inverse

-- Ba, where a is column j at the pivot rows
abbrev pub column_coefficients : Operations → (ℕ → ℕ → ℕ) → Pivots → ℕ → ℕ → ℕ
column_coefficients K A S j = mul_vec K S.count S.inverse (λ l. A (S.row l) j)

-- A[i,j] − vBa, the Schur complement of the pivots
abbrev pub schur : Operations → (ℕ → ℕ → ℕ) → Pivots → ℕ → ℕ → ℕ
schur K A S i j = K.plus (A i j) (K.negative (dot K S.count (row_coefficients K A S i) (λ l. A (S.row l) j)))

-- the blocks B + ywz, −yw, −wz and w
abbrev pub grown : Operations → ℕ → (ℕ → ℕ → ℕ) → (ℕ → ℕ) → ℕ → (ℕ → ℕ) → ℕ → ℕ → ℕ
grown K s B y w z =
    bordered s (λ k l. K.plus (B k l) (K.times (K.times (y k) w) (z l)))
    (λ k. K.negative (K.times (y k) w))
    (λ l. K.negative (K.times w (z l))) w

-- row i and column j as one pivot more
abbrev pub grow : Operations → (ℕ → ℕ → ℕ) → Pivots → ℕ → ℕ → Pivots
grow K A S i j =
    record {
      count = suc S.count;
      row = extend S.count S.row i;
      column = extend S.count S.column j;
      inverse = grown K S.count S.inverse (column_coefficients K A S j) (inverse K (schur K A S i j)) (row_coefficients K A S i);
    }

abbrev pub no_pivots : Pivots
no_pivots = record { count = 0; row = λ k. 0; column = λ k. 0; inverse = λ k l. 0 }

-- B times the values b at the pivot rows, placed at the pivot columns: what solves the pivot rows, 0 elsewhere
abbrev pub solution : Operations → (ℕ → ℕ) → Pivots → ℕ → ℕ
solution K b S = place K S.count S.column (mul_vec K S.count S.inverse (λ l. b (S.row l)))

-- 1 at row i, which is no pivot row, −vB at the pivot rows, and 0 elsewhere
abbrev pub multipliers : Operations → (ℕ → ℕ → ℕ) → Pivots → ℕ → ℕ → ℕ
multipliers K A S i = unit_minus K i S.count S.row (row_coefficients K A S i)

-- 1 at column j, which is no pivot column, −Ba at the pivot columns, and 0 elsewhere
abbrev pub kernel_vector : Operations → (ℕ → ℕ → ℕ) → Pivots → ℕ → ℕ → ℕ
kernel_vector K A S j = unit_minus K j S.count S.column (column_coefficients K A S j)
