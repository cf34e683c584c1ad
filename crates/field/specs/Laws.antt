-- The laws of a field, and what follows from them. Assumes nothing.
use Rattle.std.specs.Prelude.{◌≡◌, ℕ, ◌%◌, ◌<◌, ◌≤◌, ◌⊎◌, Some, None, ◌≢◌}
use Rattle.field.specs.Operations.{Operations, reciprocal, inverse}

-- what every field proves of its operations
pub record FieldLaws (K : Operations) : Type 0 where
  -- 0 and 1 are codes, and differ
  pub two_codes : 1 < K.q
  pub at_most : K.q ≤ 65521
  -- every operation reads a number by its remainder
  pub plus_reads : (a b : ℕ) → K.plus a b ≡ K.plus (a % K.q) (b % K.q)
  pub negative_reads : (a : ℕ) → K.negative a ≡ K.negative (a % K.q)
  pub times_reads : (a b : ℕ) → K.times a b ≡ K.times (a % K.q) (b % K.q)
  -- and gives a code
  pub plus_code : (a b : ℕ) → K.plus a b < K.q
  pub negative_code : (a : ℕ) → K.negative a < K.q
  pub times_code : (a b : ℕ) → K.times a b < K.q
  -- on codes
  pub plus_comm : (a b : ℕ) → a < K.q → b < K.q → K.plus a b ≡ K.plus b a
  pub plus_assoc : (a b c : ℕ) → a < K.q → b < K.q → c < K.q → K.plus (K.plus a b) c ≡ K.plus a (K.plus b c)
  pub times_comm : (a b : ℕ) → a < K.q → b < K.q → K.times a b ≡ K.times b a
  pub times_assoc : (a b c : ℕ) → a < K.q → b < K.q → c < K.q → K.times (K.times a b) c ≡ K.times a (K.times b c)
  pub times-plus : (a b c : ℕ) → a < K.q → b < K.q → c < K.q → K.times a (K.plus b c) ≡ K.plus (K.times a b) (K.times a c)
  pub plus-zero : (a : ℕ) → a < K.q → K.plus a 0 ≡ a
  pub times-one : (a : ℕ) → a < K.q → K.times a 1 ≡ a
  pub plus-negative : (a : ℕ) → a < K.q → K.plus a (K.negative a) ≡ 0
  pub times-inverse : (a : ℕ) → a < K.q → (a ≢ 0) → K.times a (inverse K a) ≡ 1

-- operations with these laws for all numbers: no law asks for codes, and only the neutral elements show the remainder
pub record Lawful : Type 0 where
  pub ops : Operations
  pub two_codes : 1 < ops.q
  pub at_most : ops.q ≤ 65521
  pub plus_left : (a b : ℕ) → ops.plus (a % ops.q) b ≡ ops.plus a b
  pub negative_of : (a : ℕ) → ops.negative (a % ops.q) ≡ ops.negative a
  pub times_left : (a b : ℕ) → ops.times (a % ops.q) b ≡ ops.times a b
  pub plus_code : (a b : ℕ) → ops.plus a b < ops.q
  pub negative_code : (a : ℕ) → ops.negative a < ops.q
  pub times_code : (a b : ℕ) → ops.times a b < ops.q
  pub plus_comm : (a b : ℕ) → ops.plus a b ≡ ops.plus b a
  pub plus_assoc : (a b c : ℕ) → ops.plus (ops.plus a b) c ≡ ops.plus a (ops.plus b c)
  pub times_comm : (a b : ℕ) → ops.times a b ≡ ops.times b a
  pub times_assoc : (a b c : ℕ) → ops.times (ops.times a b) c ≡ ops.times a (ops.times b c)
  pub times-plus : (a b c : ℕ) → ops.times a (ops.plus b c) ≡ ops.plus (ops.times a b) (ops.times a c)
  pub plus-zero : (a : ℕ) → ops.plus a 0 ≡ a % ops.q
  pub times-one : (a : ℕ) → ops.times a 1 ≡ a % ops.q
  pub plus-negative : (a : ℕ) → ops.plus a (ops.negative a) ≡ 0
  pub times-inverse : (a : ℕ) → (a % ops.q ≢ 0) → ops.times a (inverse ops a) ≡ 1

-- what algebra draws from the laws
pub record Consequences (K : Operations) : Type 0 where
  pub negative_unique : (a b : ℕ) → K.plus a b ≡ 0 → b % K.q ≡ K.negative a
  pub inverse_unique : (a b : ℕ) → K.times a b ≡ 1 → b % K.q ≡ inverse K a
  pub zero-product : (a b : ℕ) → K.times a b ≡ 0 → (a % K.q ≡ 0) ⊎ (b % K.q ≡ 0)
  pub plus_cancel : (a b c : ℕ) → K.plus a b ≡ K.plus a c → b % K.q ≡ c % K.q
  pub times_cancel : (a b c : ℕ) → (a % K.q ≢ 0) → K.times a b ≡ K.times a c → b % K.q ≡ c % K.q
  -- a number has no inverse just where it is read as 0; else its inverse is a code
  pub none_of_zero : (a : ℕ) → a % K.q ≡ 0 → reciprocal K a ≡ None
  pub some_of_others : (a : ℕ) → (a % K.q ≢ 0) → reciprocal K a ≡ Some (inverse K a)
  pub inverse_code : (a : ℕ) → inverse K a < K.q
  pub reciprocal_of : (a : ℕ) → reciprocal K (a % K.q) ≡ reciprocal K a
  pub difference_zero : (a b : ℕ) → K.plus a (K.negative b) ≡ 0 → a % K.q ≡ b % K.q
