-- Pivots in lists of words, and what the steps of growing do to them. Assumes nothing.
use Rattle.std.specs.Prelude.{◌≡◌, ◌≢◌, ℕ, ◌+◌, ◌*◌, ◌<◌, ◌≤◌, List, length, slice_index}
use Rattle.field.specs.Operations.{Operations}
use Rattle.rows.specs.declared.sizes.TheConstants.{MOST_MINUTES, MOST_ROWS}
use Rattle.rows.specs.Systems.{System}
use Rattle.rows.specs.Values.{entry}
use Rattle.algebra.specs.Pivots.{Pivots, PivotsOf}

-- pivots of the rows' matrix
abbrev pub PivotsOfRows : Operations → System → Pivots → Type 0
PivotsOfRows K S P = PivotsOf K (length S.rows) S.width (entry K S) P

-- where row k of the inverse has its word l: each row stands in 64 words
abbrev pub place_of : ℕ → ℕ → ℕ
place_of k l = k * MOST_MINUTES + l

-- so many pivots in lists of words: of the inverse, each row in 64 words
abbrev pub pivots_in : ℕ → List ℕ → List ℕ → List ℕ → Pivots
pivots_in s rows columns inverse =
    record {
      count = s;
      row = slice_index rows;
      column = slice_index columns;
      inverse = λ k l. slice_index inverse (place_of k l);
    }

-- they have their places
pub record PivotsFit (s : ℕ) (rows columns inverse : List ℕ) : Type 0 where
  pub few : s ≤ MOST_MINUTES
  pub row_places : length rows ≡ MOST_MINUTES
  pub column_places : length columns ≡ MOST_MINUTES
  pub inverse_places : length inverse ≡ MOST_MINUTES * MOST_MINUTES
  pub rows_below : (k : ℕ) → k < s → slice_index rows k < MOST_ROWS
  pub columns_below : (k : ℕ) → k < s → slice_index columns k < MOST_MINUTES

-- two pivots are the same as far as they count
pub record SamePivots (S T : Pivots) : Type 0 where
  pub count : S.count ≡ T.count
  pub row : (k : ℕ) → k < T.count → S.row k ≡ T.row k
  pub column : (k : ℕ) → k < T.count → S.column k ≡ T.column k
  pub inverse : (k l : ℕ) → k < T.count → l < T.count → S.inverse k l ≡ T.inverse k l

-- row k of an s × s matrix with a multiple of z added, and the negative of the factor behind it;
-- the other rows stay
pub record RowWidened (K : Operations) (s k factor : ℕ) (z : ℕ → ℕ)
    (before after : List ℕ) : Type 0 where
  pub long : length after ≡ length before
  pub own : (l : ℕ) → l < s →
      slice_index after (place_of k l)
      ≡ K.plus (slice_index before (place_of k l)) (K.times factor (z l))
  pub last : slice_index after (place_of k s) ≡ K.negative factor
  pub others : (r l : ℕ) → r ≢ k → l < MOST_MINUTES →
      slice_index after (place_of r l) ≡ slice_index before (place_of r l)

-- so the first k of its rows
pub record RowsWidened (K : Operations) (s k : ℕ) (y : ℕ → ℕ) (w : ℕ) (z : ℕ → ℕ)
    (before after : List ℕ) : Type 0 where
  pub long : length after ≡ length before
  pub own : (r l : ℕ) → r < k → l < s →
      slice_index after (place_of r l)
      ≡ K.plus (slice_index before (place_of r l)) (K.times (K.times (y r) w) (z l))
  pub last : (r : ℕ) → r < k → slice_index after (place_of r s) ≡ K.negative (K.times (y r) w)
  pub others : (r l : ℕ) → k ≤ r → l < MOST_MINUTES →
      slice_index after (place_of r l) ≡ slice_index before (place_of r l)

-- row s is −wz and then w; the other rows stay
pub record LastRow (K : Operations) (s w : ℕ) (z : ℕ → ℕ) (before after : List ℕ) : Type 0 where
  pub long : length after ≡ length before
  pub own : (l : ℕ) → l < s → slice_index after (place_of s l) ≡ K.negative (K.times w (z l))
  pub last : slice_index after (place_of s s) ≡ w
  pub others : (r l : ℕ) → r ≢ s → l < MOST_MINUTES →
      slice_index after (place_of r l) ≡ slice_index before (place_of r l)
