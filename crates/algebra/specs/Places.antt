-- The first s values of a function, as places. Assumes nothing.
use Rattle.std.specs.Prelude.{◌≡◌, ◌≢◌, ℕ, ◌<◌}

-- they are all below n
abbrev pub Below : ℕ → (ℕ → ℕ) → ℕ → Type 0
Below s f n = (k : ℕ) → k < s → f k < n

-- no two are equal
abbrev pub Distinct : ℕ → (ℕ → ℕ) → Type 0
Distinct s f = (k l : ℕ) → k < s → l < s → f k ≡ f l → k ≡ l

-- j is one of them
abbrev pub Among : ℕ → (ℕ → ℕ) → ℕ → Type 0
Among s f j = (k : ℕ) × (k < s) × (f k ≡ j)

-- j is none of them
abbrev pub Outside : ℕ → (ℕ → ℕ) → ℕ → Type 0
Outside s f j = (k : ℕ) → k < s → f k ≢ j
