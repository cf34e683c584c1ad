-- A slice filled at its first places. Assumes nothing.
use Rattle.std.specs.Prelude.{◌≡◌, ℕ, ◌<◌, ◌≤◌, List, length, slice_index}

-- `after` is `before` with f's values at the first n places
pub record Filled (n : ℕ) (f : ℕ → ℕ) (before after : List ℕ) : Type 0 where
  pub long : length after ≡ length before
  pub done : (k : ℕ) → k < n → slice_index after k ≡ f k
  pub kept : (k : ℕ) → n ≤ k → slice_index after k ≡ slice_index before k
