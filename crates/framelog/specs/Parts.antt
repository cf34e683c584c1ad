-- The parts into which the ends of lines cut a chunk. Assumes nothing.
use Rattle.std.specs.Prelude.{◌≡◌, ℕ, List, [], ◌∷◌, ◌++◌, Option, MatchOption}
use Rattle.lines.specs.Fields.{Whole}
use Rattle.framelog.specs.declared.parts.Part.{Part}
use Rattle.framelog.specs.declared.parts.Part.TheVariants.{Ended, Open}
use Rattle.framelog.specs.declared.parts.Parts.{Parts}

-- what is not cut yet
abbrev pub to_cut : Parts → List ℕ
to_cut ps = ps.rest.now

-- a part is cut off the bytes, and `rest` is left: up to the next end of a line, or all of them
abbrev pub CutOff : (bytes : List ℕ) → Part → (rest : List ℕ) → Type 0
CutOff bytes (Ended part) rest = Whole 10 part.now × (bytes ≡ part.now ++ 10 ∷ rest)
CutOff bytes (Open part) rest = Whole 10 part.now × (bytes ≡ part.now) × (rest ≡ [])

-- one call of `next`
abbrev pub NextPart : List ℕ → Option Part → List ℕ → Type 0
NextPart bytes r rest = MatchOption r ((bytes ≡ []) × (rest ≡ [])) (λ part. CutOff bytes part rest)
