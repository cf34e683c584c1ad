use Rattle.std.proofs.Common.{length, arith, rules, tests}
use Rattle.field.specs.LawsForAll.{lawful}
use Rattle.rows.specs.Values.{entry}
use Rattle.algebra.specs.Pivots.{grow}
use Rattle.solver.specs.Outcomes.{outcome_case}
use Rattle.solver.specs.Steps.Spaces.{pivots_of}
use Rattle.solver.proofs.Same.{PivotsOf-same}
use Rattle.solver.proofs.Running.{ends_at_rows, further, ends_at_columns, turns, match_ended, grown_pivots, room}
use Rattle.solver.proofs.runs.turn.Goals as goal

pub returns-in_err-row-clause-turned : goal.returns-in_err-row-clause-turned
returns-in_err-row-clause-turned g c exchanges left many =
    match_ended _ _ c.from_residual.result c.in_err-row.field-0.0 (search (rules, tests))
    (ends_at_rows (lawful g.F.Field.ops g.met.F.Field.laws) (g.R.Rows.system c.args.rows.now) g.S.Scout.meaning (pivots_of c.args.pivots.now) exchanges left
    c.args.scout.now c.ask_rows.new.scout c.args.findings.now c.ask_rows.new.findings (outcome_case c.in_err-row.field-0.0) (c.in_err-row.ensures.put exchanges many))

pub returns-in_err-minute-clause-turned : goal.returns-in_err-minute-clause-turned
returns-in_err-minute-clause-turned g c exchanges left many =
    let F = lawful g.F.Field.ops g.met.F.Field.laws in
    let S = g.R.Rows.system c.args.rows.now in
    let P = pivots_of c.args.pivots.now in
    let o = c.in_err-minute.field-0.0 in
    let i = c.in_ok-row.row in
    let from = c.args.scout.now in
    let mid = c.ask_rows.new.scout in
    let to = c.ask_columns.new.scout in
    let exchanges' = further F S g.S.Scout.meaning P exchanges left from mid to c.args.findings.now c.ask_rows.new.findings c.ask_columns.new.findings i (c.in_ok-row.ensures.put exchanges many) in
    match_ended _ _ c.from_residual-in_err-minute.result o (search (rules, tests))
    (ends_at_columns F S g.S.Scout.meaning P exchanges left from mid to c.args.findings.now c.ask_rows.new.findings c.ask_columns.new.findings i (c.in_ok-row.ensures.put exchanges many) (outcome_case o) (c.in_err-minute.ensures.put exchanges' (omega (arith, many))))

pub grow-requires : goal.grow-requires
grow-requires g c =
    let F = lawful g.F.Field.ops g.met.F.Field.laws in
    let S = g.R.Rows.system c.args.rows.now in
    let formed = g.met.R.Rows.formed c.args.rows.now in
    let there = c.in_ok-row.ensures.there in
    let below = c.in_ok-minute.ensures.below in
    let more = room F S (pivots_of c.args.pivots.now) c.requires c.in_ok-row.row c.in_ok-minute.minute there below c.in_ok-minute.ensures.pivot in
    record { room = omega (arith, formed.few_minutes); row = omega (arith, formed.few_rows); minute = omega (arith, formed.few_minutes) }

pub returns-clause-turned : goal.returns-clause-turned
returns-clause-turned g c exchanges left many =
    let F = lawful g.F.Field.ops g.met.F.Field.laws in
    let S = g.R.Rows.system c.args.rows.now in
    let P = pivots_of c.args.pivots.now in
    let i = c.in_ok-row.row in
    let from = c.args.scout.now in
    let mid = c.ask_rows.new.scout in
    let to = c.ask_columns.new.scout in
    let rows = c.in_ok-row.ensures.put exchanges many in
    let exchanges' = further F S g.S.Scout.meaning P exchanges left from mid to c.args.findings.now c.ask_rows.new.findings c.ask_columns.new.findings i rows in
    turns F S g.S.Scout.meaning P exchanges left from mid to c.args.findings.now c.ask_rows.new.findings c.ask_columns.new.findings i rows (pivots_of c.grow.new.self) c.in_ok-minute.minute
    (c.in_ok-minute.ensures.put exchanges' (omega (arith, many)))
    (c.grow.ensures c.row_coefficients-coefficients.ensures)
    many

pub returns-clause-grown : goal.returns-clause-grown
returns-clause-grown g c =
    let F = lawful g.F.Field.ops g.met.F.Field.laws in
    let S = g.R.Rows.system c.args.rows.now in
    let P = pivots_of c.args.pivots.now in
    let i = c.in_ok-row.row in
    let j = c.in_ok-minute.minute in
    let same = c.grow.ensures c.row_coefficients-coefficients.ensures in (
      PivotsOf-same F (entry F.ops S) (pivots_of c.grow.new.self) (grow F.ops (entry F.ops S) P i j) same (length S.rows) S.width (grown_pivots F S P c.requires i j c.in_ok-row.ensures.there c.in_ok-minute.ensures.below c.in_ok-minute.ensures.pivot),
      same.count,
    )
