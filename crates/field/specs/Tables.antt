-- What the tables of powers and logarithms of the octets hold. Assumes nothing.
use Rattle.std.specs.Prelude.{◌≡◌, ℕ, ◌<◌, ◌≤◌, List, length, slice_index}
use Rattle.field.specs.Octets.{power}

pub record TableRules (powers logs : List ℕ) : Type 0 where
  pub power_count : length powers ≡ 510
  pub log_count : length logs ≡ 256
  pub power_at : (k : ℕ) → k < 510 → slice_index powers k ≡ power k
  pub log_below : (a : ℕ) → a ≤ 255 → slice_index logs a < 255
  pub power_of_log : (a : ℕ) → 1 ≤ a → a ≤ 255 → slice_index powers (slice_index logs a) ≡ a

-- a logarithm of a; of 0 some number below 255
pub record LogOf (a r : ℕ) : Type 0 where
  pub below : r < 255
  pub powers : 1 ≤ a → power r ≡ a
