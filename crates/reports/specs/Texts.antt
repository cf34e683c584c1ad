-- What is reported, as bytes. Assumes nothing.
use Rattle.std.specs.Prelude.{ℕ, cond, List, [], ◌∷◌, ◌==◌, length, map, codes, decimal}
use Rattle.lines.specs.Fields.{parted, join}
use Rattle.solver.specs.declared.faults.Fault.{Fault}
use Rattle.solver.specs.declared.faults.Fault.TheVariants.{Missed, Zero, NoPlace}
use Rattle.solver.specs.declared.questions.Side.{Side}
use Rattle.solver.specs.declared.questions.Side.TheVariants as sides
use Rattle.solver.specs.declared.outcomes.Outcome.{Outcome}
use Rattle.solver.specs.declared.outcomes.Outcome.TheVariants.{Solved, Contradiction, Failed}
use Rattle.solver.specs.Outcomes.{Case, fault_place, extent_of}

-- each number with a comma before it
abbrev pub numbers_text : List ℕ → List ℕ
numbers_text ns = parted 44 (map decimal ns)

-- whether a solved run leaves no choice, by its case
abbrev pub extent_text : Case → List ℕ
extent_text extent = cond (extent.number == 1) (codes "whole") (codes "part")

abbrev pub side_text : Side → List ℕ
side_text sides.Row = codes "row"
side_text sides.Column = codes "column"

abbrev pub fault_text : Fault → List ℕ
fault_text (Missed i) = codes "none"
fault_text (Zero i) = codes "place"
fault_text (NoPlace i) = codes "outside"

-- for an hour of so many noted minutes and so many minutes: solved, whole or part, pivots,
-- questions and the minutes; contradiction, pivots, questions and the blame; or failed, question,
-- side, kind and place
abbrev pub outcome_text : Outcome → (noted width : ℕ) → List ℕ → List ℕ
outcome_text (Solved c) noted width xs =
    join 44
    (codes "solved" ∷ extent_text (extent_of c.pivots noted width)
    ∷ decimal c.pivots ∷ decimal c.questions ∷ map decimal xs)
outcome_text (Contradiction c) noted width us =
    join 44 (codes "contradiction" ∷ decimal c.pivots ∷ decimal c.questions ∷ map decimal us)
outcome_text (Failed f) noted width xs =
    join 44
    (codes "failed" ∷ decimal f.question ∷ side_text f.side
    ∷ fault_text f.fault ∷ decimal (fault_place f.fault) ∷ [])

-- the profile's line
abbrev pub profile_text : List ℕ → List ℕ
profile_text rows = join 44 (codes "profile" ∷ decimal (length rows) ∷ map decimal rows)
