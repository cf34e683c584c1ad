-- Vectors and matrices over a field, as functions of numbers, and their products. Assumes nothing.
use Rattle.std.specs.Prelude.{◌≡◌, ℕ, ◌<◌, cond, ◌==◌}
use Rattle.field.specs.Operations.{Operations}
use Rattle.field.specs.Sums.{Σ}

-- the entries of the identity matrix
unfoldable pub δ : ℕ → ℕ → ℕ
δ k l = cond (k == l) 1 0

-- x · y, over n places
abbrev pub dot : Operations → ℕ → (ℕ → ℕ) → (ℕ → ℕ) → ℕ
dot K n x y = Σ K n (λ k. K.times (x k) (y k))

-- Ax, where A has m columns
abbrev pub mul_vec : Operations → ℕ → (ℕ → ℕ → ℕ) → (ℕ → ℕ) → ℕ → ℕ
mul_vec K m A x i = dot K m (A i) x

-- uA, where A has n rows
abbrev pub vec_mul : Operations → ℕ → (ℕ → ℕ) → (ℕ → ℕ → ℕ) → ℕ → ℕ
vec_mul K n u A j = dot K n u (λ i. A i j)

-- AB, where B has n rows
abbrev pub mat_mul : Operations → ℕ → (ℕ → ℕ → ℕ) → (ℕ → ℕ → ℕ) → ℕ → ℕ → ℕ
mat_mul K n A B i j = dot K n (A i) (λ k. B k j)

-- the rows P 0, P 1, .. of A
abbrev pub rows_at : (ℕ → ℕ → ℕ) → (ℕ → ℕ) → ℕ → ℕ → ℕ
rows_at A P k = A (P k)

-- A at rows P and columns Q
abbrev pub submatrix : (ℕ → ℕ → ℕ) → (ℕ → ℕ) → (ℕ → ℕ) → ℕ → ℕ → ℕ
submatrix A P Q k l = A (P k) (Q l)

-- y 0, .. y (s − 1) at the places Q 0, .. Q (s − 1) and 0 at the others; what comes to the same place is added up
abbrev pub place : Operations → ℕ → (ℕ → ℕ) → (ℕ → ℕ) → ℕ → ℕ
place K s Q y j = Σ K s (λ k. K.times (y k) (δ (Q k) j))

-- 1 at place i, less what is placed so
abbrev pub unit_minus : Operations → ℕ → ℕ → (ℕ → ℕ) → (ℕ → ℕ) → ℕ → ℕ
unit_minus K i s Q y j = K.plus (δ i j) (K.negative (place K s Q y j))

-- f with y at s
abbrev pub extend : {X : Type 0} → ℕ → (ℕ → X) → X → ℕ → X
extend s f y k = cond (k == s) y (f k)

-- an s × s matrix M with the column a, the row v and the corner d
abbrev pub bordered : ℕ → (ℕ → ℕ → ℕ) → (ℕ → ℕ) → (ℕ → ℕ) → ℕ → ℕ → ℕ → ℕ
bordered s M a v d = extend s (λ k. extend s (M k) (a k)) (extend s v d)

-- A is the identity matrix of size s
abbrev pub IsIdentity : ℕ → (ℕ → ℕ → ℕ) → Type 0
IsIdentity s A = (k l : ℕ) → k < s → l < s → A k l ≡ δ k l

-- B is the inverse, on both sides, of the s × s matrix M
pub record Inverse (K : Operations) (s : ℕ) (M B : ℕ → ℕ → ℕ) : Type 0 where
  pub left : IsIdentity s (mat_mul K s B M)
  pub right : IsIdentity s (mat_mul K s M B)
