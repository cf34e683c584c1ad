use Rattle.std.proofs.Common.{◌≡◌, ◌≢◌, Some, ap, ◌∙◌, arith, rules, tests}
use Rattle.std.proofs.lemmas.Iterator.{first_from_Range}
use Rattle.field.specs.Operations.{first_from}
use Rattle.rows.specs.Systems.{row_at}
use Rattle.rows.specs.Values.{choice, row_value, row_value_of}
use Rattle.solver.proofs.Searches.{first_nonzero_read, test}
use Rattle.solver.proofs.Values.{row_value-there}
use Rattle.solver.proofs.questions.first_row.Goals as goal

pub returns : goal.returns
returns g c =
    let K = g.F.Field.ops in
    let S = g.R.Rows.system c.args.rows.now in
    let x = choice c.args.x.now in
    first_nonzero_read (λ i. row_value K (row_at S i) x) c.row_count.result (λ i. row_value_of K S i x) (λ i h. row_value-there K S x i (omega (arith, c.row_count.ensures))) c.find.result
    (first_from_Range (record { start = 0; end = c.row_count.result }) c.find.new.self _ c.find.result (λ i. row_value_of K S i x ≢ Some 0) (λ i. row_value_of K S i x ≡ Some 0) c.find.ensures.ran (λ i q k. search (rules, tests)) (λ i q k. search (rules, tests)))
    ∙ ap (λ n. first_from (test (λ i. row_value K (row_at S i) x) n) n 0) c.row_count.ensures
