use Rattle.std.proofs.Common.{◌≡◌, ◌≢◌, ap, ◌∙◌, arith, rules, tests, slice_index}
use Rattle.std.proofs.lemmas.Iterator.{first_from_Range}
use Rattle.field.specs.Operations.{first_from}
use Rattle.rows.specs.Values.{choice, column_value}
use Rattle.solver.proofs.Searches.{first_nonzero_held, test}
use Rattle.solver.proofs.questions.first_column.Goals as goal

pub returns : goal.returns
returns g c =
    let K = g.F.Field.ops in
    let S = g.R.Rows.system c.args.rows.now in
    let f = column_value K S (choice c.args.u.now) in
    let few = (g.met.R.Rows.formed c.args.rows.now).few_minutes in
    first_nonzero_held f c.width.result 64 c.column_values-values.result c.column_values-values.ensures (omega (arith, c.width.ensures)) c.find.result
    (first_from_Range (record { start = 0; end = c.width.result }) c.find.new.self _ c.find.result (λ j. slice_index c.column_values-values.result j ≢ 0) (λ j. slice_index c.column_values-values.result j ≡ 0) c.find.ensures.ran (λ i q k. search (rules, tests)) (λ i q k. search (rules, tests)))
    ∙ ap (λ n. first_from (test f n) n 0) c.width.ensures
