-- Checked sizes. Assumes nothing.
use Rattle.std.specs.Prelude.{ℕ, ◌||◌, Ok, Result, nat_lt}
use Rattle.frame.specs.Refusals.{RefusalCase}
use Rattle.frame.specs.Orders.{refuse, when}
use Rattle.rows.specs.declared.sizes.Size.{Size}

abbrev pub size_number : (most : ℕ) → Size most → ℕ
size_number most s = s.number

-- the check of a size: a number from 1 to `most` is let through
abbrev pub size_answer : ℕ → ℕ → Result ℕ RefusalCase
size_answer most n = refuse 16 (when (nat_lt n 1 || nat_lt most n)) (Ok n)
