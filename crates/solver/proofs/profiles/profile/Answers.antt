use Rattle.std.proofs.Common.{◌≡◌, length, subst, arith}
use Rattle.field.specs.LawsForAll.{lawful}
use Rattle.rows.specs.Values.{entry}
use Rattle.algebra.specs.Profiles.{eliminate}
use Rattle.solver.specs.Steps.Pivots.{SamePivots}
use Rattle.solver.specs.Steps.Spaces.{pivots_of}
use Rattle.solver.proofs.Eliminating.{eliminated_start, eliminated_next, eliminated_pivots, eliminated_outside, profiled}
use Rattle.solver.proofs.profiles.profile.Goals as goal

pub loop-row-init : goal.loop-row-init
loop-row-init g c =
    let F = lawful g.F.Field.ops g.met.F.Field.laws in
    let S = g.R.Rows.system c.args.rows.now in
    eliminated_start F S.width (entry F.ops S) (pivots_of c.new-pivots.result) c.new-pivots.ensures

pub eliminate_row-requires-clause-pivots : goal.eliminate_row-requires-clause-pivots
eliminate_row-requires-clause-pivots g c =
    let F = lawful g.F.Field.ops g.met.F.Field.laws in
    let S = g.R.Rows.system c.args.rows.now in
    eliminated_pivots F S.width (entry F.ops S) (length S.rows) c.loop-row.row (omega (arith, c.loop-row-test.true, c.row_count-row-end.ensures)) (pivots_of c.loop-row.pivots) c.loop-row.invariant

pub eliminate_row-requires-clause-outside : goal.eliminate_row-requires-clause-outside
eliminate_row-requires-clause-outside g c =
    let F = lawful g.F.Field.ops g.met.F.Field.laws in
    let S = g.R.Rows.system c.args.rows.now in
    eliminated_outside F S.width (entry F.ops S) (length S.rows) c.loop-row.row (omega (arith, c.loop-row-test.true, c.row_count-row-end.ensures)) (pivots_of c.loop-row.pivots) c.loop-row.invariant

pub loop-row-preserved : goal.loop-row-preserved
loop-row-preserved g c =
    let F = lawful g.F.Field.ops g.met.F.Field.laws in
    let S = g.R.Rows.system c.args.rows.now in
    eliminated_next F S.width (entry F.ops S) (pivots_of c.loop-row.pivots) (pivots_of c.eliminate_row.new.pivots) c.loop-row.row c.loop-row.invariant c.eliminate_row.ensures

pub returns-clause-profiles : goal.returns-clause-profiles
returns-clause-profiles g c =
    let F = lawful g.F.Field.ops g.met.F.Field.laws in
    let S = g.R.Rows.system c.args.rows.now in
    let P = pivots_of c.loop-row.pivots in
    let all : c.loop-row.row ≡ length S.rows = omega (arith, c.loop-row-test.false, c.loop-row.auto.row-end, c.row_count-row-end.ensures) in
    let same = subst (λ i. SamePivots P (eliminate F.ops S.width (entry F.ops S) i)) all c.loop-row.invariant in
    rw (c.count.ensures) (profiled F S P c.args.list.now c.write_rows.new.list same c.write_rows.ensures)
