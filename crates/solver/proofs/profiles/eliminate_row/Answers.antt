use Rattle.std.proofs.Common.{Some, None, sym, subst, ◌∙◌}
use Rattle.field.specs.LawsForAll.{lawful}
use Rattle.solver.specs.Steps.Pivots.{SamePivots}
use Rattle.solver.specs.Steps.Spaces.{pivots_of}
use Rattle.solver.proofs.Eliminating.{SamePivots-refl, eliminated_row, fresh_room}
use Rattle.solver.proofs.profiles.eliminate_row.Goals as goal

pub grow-requires : goal.grow-requires
grow-requires g c =
    let F = lawful g.F.Field.ops g.met.F.Field.laws in
    let S = g.R.Rows.system c.args.rows.now in
    fresh_room F S (g.met.R.Rows.formed c.args.rows.now) (pivots_of c.args.pivots.now) c.requires.pivots c.args.row c.requires.there c.requires.outside c.row_coefficients-coefficients.result c.multipliers-u.result c.row_count.result c.row_count.ensures c.row_coefficients-coefficients.ensures c.multipliers-u.ensures c.first_place.result c.first_place.ensures.first
    c.in-Some.minute c.in-Some.is

pub returns-in-Some : goal.returns-in-Some
returns-in-Some g c =
    let F = lawful g.F.Field.ops g.met.F.Field.laws in
    let S = g.R.Rows.system c.args.rows.now in
    let P = pivots_of c.args.pivots.now in
    let row = eliminated_row F S (g.met.R.Rows.formed c.args.rows.now) P c.requires.pivots c.args.row c.requires.there c.requires.outside c.row_coefficients-coefficients.result c.multipliers-u.result c.row_count.result c.row_count.ensures c.row_coefficients-coefficients.ensures c.multipliers-u.ensures (Some c.in-Some.minute) (sym c.in-Some.is ∙ c.first_place.ensures.first) in
    subst (SamePivots (pivots_of c.grow.new.self)) (sym row) (c.grow.ensures c.row_coefficients-coefficients.ensures)

pub returns-in_default : goal.returns-in_default
returns-in_default g c =
    let F = lawful g.F.Field.ops g.met.F.Field.laws in
    let S = g.R.Rows.system c.args.rows.now in
    let P = pivots_of c.args.pivots.now in
    let row = eliminated_row F S (g.met.R.Rows.formed c.args.rows.now) P c.requires.pivots c.args.row c.requires.there c.requires.outside c.row_coefficients-coefficients.result c.multipliers-u.result c.row_count.result c.row_count.ensures c.row_coefficients-coefficients.ensures c.multipliers-u.ensures None (sym c.in_default.is ∙ c.first_place.ensures.first) in
    subst (SamePivots P) (sym row) (SamePivots-refl P)
