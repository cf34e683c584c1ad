-- The operations of a field, as functions of numbers. Assumes nothing.
use Rattle.std.specs.Prelude.{ℕ, zero, suc, Bool, true, false, Some, None, Option, nat_eq}
use Rattle.std.specs.Option.{unwrap_or}

-- q elements; a code is a number below q and stands for an element
pub record Operations : Type 0 where
  pub q : ℕ
  pub plus : ℕ → ℕ → ℕ
  pub negative : ℕ → ℕ
  pub times : ℕ → ℕ → ℕ

-- the first of `count` numbers, from `from` on, that passes the test
unfoldable pub first_from : (ℕ → Bool) → ℕ → ℕ → Option ℕ
first_from test zero from = None
first_from test (suc count) from = elim (test from) [ true ↦ Some from | false ↦ first_from test count (suc from) ]

-- the least code b with a · b = 1
unfoldable pub reciprocal : Operations → ℕ → Option ℕ
reciprocal K a = first_from (λ b. nat_eq (K.times a b) 1) K.q 0

-- the same as a number, 0 where there is none
unfoldable pub inverse : Operations → ℕ → ℕ
inverse K a = unwrap_or (reciprocal K a) 0
