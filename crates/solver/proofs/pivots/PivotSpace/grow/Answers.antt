use Rattle.std.proofs.Common.{slice_index, slice_set, take, sym, ap, subst, ◌+◌, ◌∙◌}
use Rattle.std.specs.Option.{unwrap_or}
use Rattle.field.specs.LawsForAll.{lawful}
use Rattle.rows.specs.Values.{entry}
use Rattle.algebra.specs.Pivots.{grow}
use Rattle.solver.specs.Steps.Pivots.{pivots_in, LastRow, SamePivots}
use Rattle.solver.specs.Steps.Spaces.{pivots_of}
use Rattle.solver.proofs.Steps.{grown_held, same_z, same_y, same_pivot}
use Rattle.solver.proofs.pivots.PivotSpace.grow.Goals as goal

pub returns : goal.returns
returns g c zs =
    let F = lawful g.F.Field.ops g.met.F.Field.laws in
    let A = entry F.ops (g.R.Rows.system c.args.rows.now) in
    let old = c.args.self.now in
    let s = old.count in
    let i = c.args.row in
    let j = c.args.minute in
    let z = c.args.coefficients.now in
    let column = c.column-column.result in
    let y = c.times-y.result in
    let w = c.unwrap_or-w.result in
    let wide = c.widen.new.self in
    let new = c.add_last_row.new.self in
    let kept = c.add_last_row.ensures.kept in
    let kept_before = c.widen.ensures.kept in
    let T = grow F.ops A (pivots_of old) i j in
    let pivot = same_pivot F A s old.pivot_rows.now old.pivot_columns.now old.inverse.now old.fit i j z column y zs c.column-column.ensures c.times-y.ensures c.complement.result w c.complement.ensures (c.unwrap_or-w.ensures ∙ ap (λ r. unwrap_or r 0) c.inverse.ensures) in
    let last = subst (λ s. LastRow F.ops s w (slice_index (take old.count z)) wide.inverse.now new.inverse.now) kept_before.count c.add_last_row.ensures.last in
    let held = grown_held F A s old.pivot_rows.now old.pivot_columns.now old.inverse.now old.fit i j (slice_index y) (slice_index (take s z)) w
    (same_y F A s old.pivot_rows.now old.pivot_columns.now old.inverse.now old.fit i j z column y zs c.column-column.ensures c.times-y.ensures)
    (same_z F A s old.pivot_rows.now old.pivot_columns.now old.inverse.now old.fit i j z column y zs c.column-column.ensures c.times-y.ensures)
    pivot wide.inverse.now new.inverse.now c.widen.ensures.widened last c.requires.room in
    subst (λ n. SamePivots (pivots_in (n + 1) (slice_set new.pivot_rows.now n i) (slice_set new.pivot_columns.now n j) new.inverse.now) T) (sym (kept.count ∙ kept_before.count))
    (subst (λ rows. SamePivots (pivots_in (s + 1) (slice_set rows s i) (slice_set new.pivot_columns.now s j) new.inverse.now) T) (sym (kept.pivot_rows ∙ kept_before.pivot_rows))
    (subst (λ columns. SamePivots (pivots_in (s + 1) (slice_set old.pivot_rows.now s i) (slice_set columns s j) new.inverse.now) T) (sym (kept.pivot_columns ∙ kept_before.pivot_columns)) held))
