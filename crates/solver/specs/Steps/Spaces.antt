-- The pivots that a space holds. Assumes nothing.
use Rattle.std.specs.Prelude.{◌≡◌}
use Rattle.algebra.specs.Pivots.{Pivots}
use Rattle.solver.specs.declared.pivots.PivotSpace.{PivotSpace}
use Rattle.solver.specs.Steps.Pivots.{pivots_in}

abbrev pub pivots_of : PivotSpace → Pivots
pivots_of s = pivots_in s.count s.pivot_rows.now s.pivot_columns.now s.inverse.now

-- it holds the same places, and maybe another inverse
pub record SamePlaces (s t : PivotSpace) : Type 0 where
  pub count : t.count ≡ s.count
  pub pivot_rows : t.pivot_rows.now ≡ s.pivot_rows.now
  pub pivot_columns : t.pivot_columns.now ≡ s.pivot_columns.now
