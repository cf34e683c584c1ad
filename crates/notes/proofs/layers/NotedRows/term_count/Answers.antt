use Rattle.std.proofs.Common.{Some, ap, ◌∙◌, rules, tests}
use Rattle.std.proofs.lemmas.Iterator.Consumers.{count_from_yields_List}
use Rattle.rows.specs.RowTerms.{terms_left}
use Rattle.notes.proofs.Readings.{open_yielded, open_count}
use Rattle.notes.proofs.layers.NotedRows.term_count.Goals as goal

pub returns : goal.returns
returns g c =
    let system = g.R.Rows.system in
    let codes = c.args.self.now.notes.codes in
    let ts = terms_left system c.in_ok-terms.field-0 in
    ap Some (count_from_yields_List c.filter-open.result c.count.result c.count.ensures.ran (open_yielded system codes ts (ap (terms_left system) c.filter-open.ensures.source) c.filter-open.ensures.closure (λ t b q k. search (rules, tests))))
    ∙ open_count g.F.Field.ops codes (system c.args.self.now.below) c.args.row ts c.in_ok-terms.ensures
