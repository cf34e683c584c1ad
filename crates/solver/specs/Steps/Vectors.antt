-- Parts of vectors. Assumes nothing.
use Rattle.std.specs.Prelude.{◌≡◌, ℕ, ◌<◌, List, slice_index}
use Rattle.algebra.specs.Places.{Distinct, Outside}

-- the first s words are f's values
abbrev pub Begins : ℕ → (ℕ → ℕ) → List ℕ → Type 0
Begins s f xs = (k : ℕ) → k < s → slice_index xs k ≡ f k

-- it has y 0, .. y (s − 1) at the places Q 0, .. Q (s − 1), of which no two are equal, and 0 at the
-- others
pub record Placed (s : ℕ) (Q y : ℕ → ℕ) (xs : List ℕ) : Type 0 where
  pub at : Distinct s Q → (k : ℕ) → k < s → slice_index xs (Q k) ≡ y k
  pub elsewhere : (j : ℕ) → Outside s Q j → slice_index xs j ≡ 0
