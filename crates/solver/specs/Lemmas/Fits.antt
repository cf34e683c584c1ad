-- There is one proof at most that pivots fit their space. Assumes nothing.
use Rattle.std.specs.Prelude.{ℕ, List}
use Rattle.std.proofs.Props.{props}
use Prim.{IsProp}
use Rattle.solver.specs.Steps.Pivots.{PivotsFit}

pub PivotsFit-prop : (s : ℕ) (rows columns inverse : List ℕ) →
    IsProp (PivotsFit s rows columns inverse)
PivotsFit-prop s rows columns inverse = Prim.hlevel props
