-- Words of the steps in which an hour is read. No promise of a public call needs them.
use Rattle.std.specs.Prelude.{◌≡◌, ℕ, List, ◌∷◌, Some, None, Option, IsOk}
use Rattle.std.specs.List.{All}
use Rattle.rows.specs.declared.sizes.TheConstants.{MOST_ROWS}
use Rattle.rows.specs.Systems.{Row, System}
use Rattle.rows.specs.Ledgers.{take_answer, appended}
use Rattle.solverspeed.specs.Hours.{row_words, rows_words, FromFrame, IsHour, IsNoHour}

-- words begin with a row that is taken: it comes from a frame, and is the last row then
pub record BeginsWith (r : Row) (words rest : List ℕ) (before after : System) : Type 0 where
  pub said : words ≡ row_words r rest
  pub frame : FromFrame r
  pub appended : after ≡ appended before r

-- no row that words begin with is taken
abbrev pub NoRowTaken : List ℕ → System → Type 0
NoRowTaken words S = (r : Row) → (rest : List ℕ) → words ≡ row_words r rest
    → FromFrame r → ¬ IsOk (take_answer S MOST_ROWS r)

-- the row that words begin with is taken, and these words are behind it; none where none is
abbrev pub RowTaken : List ℕ → (before after : System) → Option (List ℕ) → Type 0
RowTaken words before after None = NoRowTaken words before
RowTaken words before after (Some rest) = (r : Row) × BeginsWith r words rest before after

-- what is read of an hour: its words begin with its width and these rows, each from a frame
pub record ReadSoFar (words : List ℕ) (S : System) (rest : List ℕ) : Type 0 where
  pub said : words ≡ S.width ∷ rows_words S.rows rest
  pub frames : All FromFrame S.rows

-- the hour that words say; none where they say none
abbrev pub HourRead : List ℕ → Option System → Type 0
HourRead words None = IsNoHour words
HourRead words (Some S) = IsHour words S
