-- Columns of the matrix of rows, and what they determine. Assumes nothing.
use Rattle.std.specs.Prelude.{◌≡◌, ◌≢◌, ℕ, ◌%◌, ◌<◌, List, length}
use Rattle.std.specs.List.{All, AllPairs, Contains}
use Rattle.field.specs.Operations.{Operations}
use Rattle.rows.specs.Systems.{System}
use Rattle.rows.specs.Values.{entry, SatisfiesAll}

-- at this minute the weight is 0 in every row
abbrev pub ZeroColumn : Operations → System → ℕ → Type 0
ZeroColumn K S c = (i : ℕ) → i < length S.rows → entry K S i c ≡ 0

-- different minutes below the width, at each of which some row has a weight
pub record DifferentColumns (K : Operations) (S : System) (columns : List ℕ) : Type 0 where
  pub below : All (λ c. c < S.width) columns
  pub differ : AllPairs (λ c d. c ≢ d) columns
  pub none_zero : All (λ c. ¬ ZeroColumn K S c) columns

-- these columns determine x: a choice that satisfies all rows and agrees with x outside them is x
abbrev pub Determine : Operations → System → List ℕ → (ℕ → ℕ) → Type 0
Determine K S columns x =
    (y : ℕ → ℕ) → SatisfiesAll K S y →
    ((c : ℕ) → c < S.width → ¬ Contains columns c → y c % K.q ≡ x c % K.q) →
    (c : ℕ) → c < S.width → y c % K.q ≡ x c
