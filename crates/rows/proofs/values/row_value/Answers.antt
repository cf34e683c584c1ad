use Rattle.std.proofs.Common.{Some, ap, ◌∙◌, rules, tests}
use Rattle.std.proofs.lemmas.Iterator.Consumers.{YieldsList-from_first, fold_from_yields_List}
use Rattle.field.specs.LawsForAll.{lawful}
use Rattle.frame.specs.declared.terms.Term.{Term}
use Rattle.rows.specs.RowTerms.{terms_left}
use Rattle.rows.specs.Systems.{row_at}
use Rattle.rows.proofs.RowValues.{found_terms, all_added, value_tells, row_valued}
use Rattle.rows.proofs.values.row_value.Goals as goal

pub returns-in_err-sum-clause-tells : goal.returns-in_err-sum-clause-tells
returns-in_err-sum-clause-tells g c = value_tells (lawful g.F.Field.ops g.met.F.Field.laws) (g.X.Choice.codes c.args.x.now) (row_at (g.R.Rows.system c.args.rows.now) c.args.row)

pub returns-clause-value : goal.returns-clause-value
returns-clause-value g c =
    let F = lawful g.F.Field.ops g.met.F.Field.laws in
    let S = g.R.Rows.system c.args.rows.now in
    let x = g.X.Choice.codes c.args.x.now in
    let there = found_terms S.rows c.args.row _ c.in_ok-terms.ensures in
    let added = fold_from_yields_List _ (λ a (t : Term). F.ops.plus a (F.ops.times t.weight (x t.minute))) 0 c.fold-total.result c.fold-total.ensures.ran (YieldsList-from_first (λ t. t) (terms_left g.R.Rows.system) _ there.1) (λ a t b q k. search (rules, tests)) in
    ap Some (c.plus.ensures ∙ ap (F.ops.plus c.in_ok-sum.sum) c.negative.ensures)
    ∙ row_valued F x S c.args.row c.in_ok-sum.sum c.fold-total.result c.in_ok-sum.ensures (added ∙ all_added F x (row_at S c.args.row).terms)

pub returns-clause-tells : goal.returns-clause-tells
returns-clause-tells g c = value_tells (lawful g.F.Field.ops g.met.F.Field.laws) (g.X.Choice.codes c.args.x.now) (row_at (g.R.Rows.system c.args.rows.now) c.args.row)
