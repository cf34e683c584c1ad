-- Hours in words. Assumes nothing.
use Rattle.std.specs.Prelude.{◌≡◌, ℕ, List, [], ◌∷◌, ◌++◌, length}
use Rattle.std.specs.List.{All}
use Rattle.frame.specs.declared.terms.Term.{Term}
use Rattle.frame.specs.Frames.{FrameTerms}
use Rattle.rows.specs.Systems.{Row, System, WellFormed}

-- terms in words: a minute and a weight for each
abbrev pub terms_words : List Term → List ℕ
terms_words [] = []
terms_words (t ∷ ts) = t.minute ∷ t.weight ∷ terms_words ts

-- a row in words, with other words behind it: the number of its terms, its sum, and the terms
abbrev pub row_words : Row → List ℕ → List ℕ
row_words r rest = length r.terms ∷ r.sum ∷ (terms_words r.terms ++ rest)

-- rows in words, with other words behind them
abbrev pub rows_words : List Row → List ℕ → List ℕ
rows_words [] rest = rest
rows_words (r ∷ rs) rest = row_words r (rows_words rs rest)

-- an hour in words: the number of its minutes, and then its rows
abbrev pub hour_words : System → List ℕ
hour_words S = S.width ∷ rows_words S.rows []

-- a row comes from a frame: its terms are a frame's
abbrev pub FromFrame : Row → Type 0
FromFrame r = FrameTerms r.terms

-- words say an hour: they are its words, and each of its rows comes from a frame
pub record IsHour (words : List ℕ) (S : System) : Type 0 where
  pub said : words ≡ hour_words S
  pub formed : WellFormed S
  pub frames : All FromFrame S.rows

-- words say no hour
abbrev pub IsNoHour : List ℕ → Type 0
IsNoHour words = (S : System) → ¬ IsHour words S
