-- What slices hold as vectors. Assumes nothing.
use Rattle.std.specs.Prelude.{◌≡◌, ℕ, ◌<◌, List, length, slice_index}

-- a slice of n words that holds f's values
pub record IsVector (n : ℕ) (f : ℕ → ℕ) (xs : List ℕ) : Type 0 where
  pub long : length xs ≡ n
  pub each : (k : ℕ) → k < n → slice_index xs k ≡ f k

-- its words are below q
abbrev pub Codes : ℕ → List ℕ → Type 0
Codes q xs = (k : ℕ) → k < length xs → slice_index xs k < q
