-- The integers modulo n. Assumes nothing.
use Rattle.std.specs.Prelude.{ℕ, ◌+◌, ◌-◌, ◌*◌, ◌%◌}
use Rattle.field.specs.Operations.{Operations}

abbrev pub modulo : ℕ → Operations
modulo n = record { q = n; plus = λ a b. (a + b) % n; negative = λ a. (n - a % n) % n; times = λ a b. (a * b) % n }
