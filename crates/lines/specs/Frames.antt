-- The line of a frame. Assumes nothing.
use Rattle.std.specs.Prelude.{ℕ, ◌<◌, List, [], ◌∷◌, map, decimal}
use Rattle.frame.specs.declared.terms.Term.{Term}
use Rattle.frame.specs.Frames.{FrameTerms}
use Rattle.lines.specs.Fields.{join}

-- minute, weight, minute, weight, ..
abbrev pub flat : List Term → List ℕ
flat [] = []
flat (t ∷ ts) = t.minute ∷ t.weight ∷ flat ts

-- F, the sum, and then each term's minute and weight, parted by commas
abbrev pub line_of : ℕ → List Term → List ℕ
line_of sum ts = join 44 ((70 ∷ []) ∷ map decimal (sum ∷ flat ts))

-- a sum and terms that make a frame
pub record IsFrame (sum : ℕ) (ts : List Term) : Type 0 where
  pub word : sum < 65536
  pub terms : FrameTerms ts
