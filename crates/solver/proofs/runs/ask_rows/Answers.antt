use Rattle.std.proofs.Common.{◌≡◌, suc, ◌+◌, ◌*◌, length, None, Ok, Err, ap, subst, arith, ◌∙◌, rules, tests}
use Rattle.field.specs.LawsForAll.{lawful}
use Rattle.field.specs.Slices.{Filled}
use Rattle.rows.specs.Values.{choice}
use Rattle.solver.specs.Questions.{question_codes}
use Rattle.solver.specs.Outcomes.{solved_case}
use Rattle.solver.specs.Steps.Spaces.{pivots_of}
use Rattle.solver.specs.Steps.Turns.{ended}
use Rattle.solver.proofs.Asking.{rows_asked, row_named}
use Rattle.solver.proofs.Puts.{put_failed, same_counts}
use Rattle.solver.proofs.runs.ask_rows.Goals as goal

pub returns-in_err-row-clause-put : goal.returns-in_err-row-clause-put
returns-in_err-row-clause-put g c exchanges many =
    let P = pivots_of c.args.pivots.now in
    let same = rows_asked (lawful g.F.Field.ops g.met.F.Field.laws) (g.R.Rows.system c.args.rows.now) (g.met.R.Rows.formed c.args.rows.now) P c.requires c.solution-x.result c.width.result c.width.ensures c.solution-x.ensures in
    let ends : c.from_residual.result ≡ Err c.in_err-row.field-0.0 = search (rules, tests) in
    put_failed c.from_residual.result c.in_err-row.field-0.0 (c.put.ensures.continues P None exchanges same (omega (arith, c.count.ensures, many))) c.in_err-row.was ends

pub returns-in_default-clause-put : goal.returns-in_default-clause-put
returns-in_default-clause-put g c exchanges many =
    let P = pivots_of c.args.pivots.now in
    let same = rows_asked (lawful g.F.Field.ops g.met.F.Field.laws) (g.R.Rows.system c.args.rows.now) (g.met.R.Rows.formed c.args.rows.now) P c.requires c.solution-x.result c.width.result c.width.ensures c.solution-x.ensures in
    let f = c.args.findings.now in
    let f' = c.write_minutes.new.self in
    (c.put.ensures.continues P None exchanges same (omega (arith, c.count.ensures, many))).none _ f f' (ap ended (c.in_ok-row.was ∙ ap Ok c.in_default.is))
    (same_counts solved_case c.count-in_default.result P.count (2 * c.count.result + 1) (suc (length exchanges)) c.count-in_default.ensures (omega (arith, c.count.ensures, many)))
    (record {
      minutes = λ _. (subst (λ xs. Filled (length xs) (choice xs) f.minutes f'.minutes) (ap question_codes same) c.write_minutes.ensures.minutes, c.write_minutes.ensures.blame);
      blame = λ e. absurd (omega arith);
      nothing = λ e. absurd (omega arith);
    })

pub returns-clause-put : goal.returns-clause-put
returns-clause-put g c exchanges many =
    let P = pivots_of c.args.pivots.now in
    let same = rows_asked (lawful g.F.Field.ops g.met.F.Field.laws) (g.R.Rows.system c.args.rows.now) (g.met.R.Rows.formed c.args.rows.now) P c.requires c.solution-x.result c.width.result c.width.ensures c.solution-x.ensures in
    (c.put.ensures.continues P None exchanges same (omega (arith, c.count.ensures, many))).place c.in-Some.row c.args.findings.now (ap ended (c.in_ok-row.was ∙ ap Ok c.in-Some.is))

pub returns-clause-there : goal.returns-clause-there
returns-clause-there g c =
    (row_named (lawful g.F.Field.ops g.met.F.Field.laws) (g.R.Rows.system c.args.rows.now) (g.met.R.Rows.formed c.args.rows.now) (pivots_of c.args.pivots.now) c.requires c.solution-x.result c.width.result c.width.ensures c.solution-x.ensures _ c.in-Some.row c.in_ok-row.ensures.truth c.in-Some.is).0

pub returns-clause-outside : goal.returns-clause-outside
returns-clause-outside g c =
    (row_named (lawful g.F.Field.ops g.met.F.Field.laws) (g.R.Rows.system c.args.rows.now) (g.met.R.Rows.formed c.args.rows.now) (pivots_of c.args.pivots.now) c.requires c.solution-x.result c.width.result c.width.ensures c.solution-x.ensures _ c.in-Some.row c.in_ok-row.ensures.truth c.in-Some.is).1
