-- Combinations of rows, span and independence, and what solves a system. Assumes nothing.
use Rattle.std.specs.Prelude.{◌≡◌, ℕ, ◌%◌, ◌<◌}
use Rattle.field.specs.Operations.{Operations}
use Rattle.algebra.specs.Vectors.{mul_vec, vec_mul}

-- x is, at the first m places, the first s rows of R times c 0, .. c (s − 1), added up
abbrev pub Combination : Operations → ℕ → ℕ → (ℕ → ℕ → ℕ) → (ℕ → ℕ) → (ℕ → ℕ) → Type 0
Combination K m s R c x = (j : ℕ) → j < m → x j % K.q ≡ vec_mul K s c R j

-- x is a combination of the first s rows of R
abbrev pub InSpan : Operations → ℕ → ℕ → (ℕ → ℕ → ℕ) → (ℕ → ℕ) → Type 0
InSpan K m s R x = (c : ℕ → ℕ) × Combination K m s R c x

-- the first s rows of R make 0 only with coefficients that are all 0
abbrev pub Independent : Operations → ℕ → ℕ → (ℕ → ℕ → ℕ) → Type 0
Independent K m s R = (c : ℕ → ℕ) → ((j : ℕ) → j < m → vec_mul K s c R j ≡ 0) → (k : ℕ) → k < s → c k % K.q ≡ 0

-- x satisfies row i of the system A, b
abbrev pub Solves : Operations → ℕ → (ℕ → ℕ → ℕ) → (ℕ → ℕ) → (ℕ → ℕ) → ℕ → Type 0
Solves K m A b x i = mul_vec K m A x i ≡ b i % K.q

-- x satisfies the first n rows
abbrev pub SolvesAll : Operations → ℕ → ℕ → (ℕ → ℕ → ℕ) → (ℕ → ℕ) → (ℕ → ℕ) → Type 0
SolvesAll K n m A b x = (i : ℕ) → i < n → Solves K m A b x i
