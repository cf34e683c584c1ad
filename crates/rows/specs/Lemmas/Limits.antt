-- The smaller of two limits is a limit. Assumes nothing.
use Rattle.std.specs.Prelude.{ℕ, ◌≤◌, min}
use Rattle.std.proofs.Common.{arith}
use Rattle.rows.specs.Ledgers.{LimitInRange}

pub smaller_limit : (a b : ℕ) → 1 ≤ a → LimitInRange b → LimitInRange (min a b)
smaller_limit a b some limit =
    record { some = omega (arith, limit.some); most = omega (arith, limit.most) }
