use Rattle.std.proofs.Common.{◌≡◌, suc, ◌+◌, ◌*◌, length, Some, Ok, Err, ap, subst, arith, ◌∙◌, rules, tests}
use Rattle.field.specs.LawsForAll.{lawful}
use Rattle.field.specs.Slices.{Filled}
use Rattle.rows.specs.Values.{choice}
use Rattle.solver.specs.Questions.{question_codes}
use Rattle.solver.specs.Outcomes.{contradiction_case}
use Rattle.solver.specs.Steps.Spaces.{pivots_of}
use Rattle.solver.specs.Steps.Turns.{ended}
use Rattle.solver.proofs.Asking.{columns_asked, column_named}
use Rattle.solver.proofs.Puts.{put_failed, same_counts}
use Rattle.solver.proofs.runs.ask_columns.Goals as goal

pub returns-in_err-minute-clause-put : goal.returns-in_err-minute-clause-put
returns-in_err-minute-clause-put g c exchanges many =
    let P = pivots_of c.args.pivots.now in
    let same = columns_asked (lawful g.F.Field.ops g.met.F.Field.laws) (g.R.Rows.system c.args.rows.now) (g.met.R.Rows.formed c.args.rows.now) P c.requires.pivots c.args.row c.args.coefficients.now c.multipliers-u.result c.row_count.result c.row_count.ensures c.requires.outside c.requires.coefficients c.multipliers-u.ensures in
    let ends : c.from_residual.result ≡ Err c.in_err-minute.field-0.0 = search (rules, tests) in
    put_failed c.from_residual.result c.in_err-minute.field-0.0 (c.put.ensures.continues P (Some c.args.row) exchanges same (omega (arith, c.count.ensures, many))) c.in_err-minute.was ends

pub returns-in_default-clause-put : goal.returns-in_default-clause-put
returns-in_default-clause-put g c exchanges many =
    let P = pivots_of c.args.pivots.now in
    let same = columns_asked (lawful g.F.Field.ops g.met.F.Field.laws) (g.R.Rows.system c.args.rows.now) (g.met.R.Rows.formed c.args.rows.now) P c.requires.pivots c.args.row c.args.coefficients.now c.multipliers-u.result c.row_count.result c.row_count.ensures c.requires.outside c.requires.coefficients c.multipliers-u.ensures in
    let f = c.args.findings.now in
    let f' = c.write_blame.new.self in
    (c.put.ensures.continues P (Some c.args.row) exchanges same (omega (arith, c.count.ensures, many))).none _ f f' (ap ended (c.in_ok-minute.was ∙ ap Ok c.in_default.is))
    (same_counts contradiction_case c.count-in_default.result P.count (2 * c.count.result + 2) (suc (length exchanges)) c.count-in_default.ensures (omega (arith, c.count.ensures, many)))
    (record {
      minutes = λ e. absurd (omega arith);
      blame = λ _. (c.write_blame.ensures.minutes, subst (λ us. Filled (length us) (choice us) f.blame f'.blame) (ap question_codes same) c.write_blame.ensures.blame);
      nothing = λ e. absurd (omega arith);
    })

pub returns-clause-put : goal.returns-clause-put
returns-clause-put g c exchanges many =
    let P = pivots_of c.args.pivots.now in
    let same = columns_asked (lawful g.F.Field.ops g.met.F.Field.laws) (g.R.Rows.system c.args.rows.now) (g.met.R.Rows.formed c.args.rows.now) P c.requires.pivots c.args.row c.args.coefficients.now c.multipliers-u.result c.row_count.result c.row_count.ensures c.requires.outside c.requires.coefficients c.multipliers-u.ensures in
    (c.put.ensures.continues P (Some c.args.row) exchanges same (omega (arith, c.count.ensures, many))).place c.in-Some.minute c.args.findings.now (ap ended (c.in_ok-minute.was ∙ ap Ok c.in-Some.is))

pub returns-clause-below : goal.returns-clause-below
returns-clause-below g c =
    (column_named (lawful g.F.Field.ops g.met.F.Field.laws) (g.R.Rows.system c.args.rows.now) (g.met.R.Rows.formed c.args.rows.now) (pivots_of c.args.pivots.now) c.requires.pivots c.args.row c.args.coefficients.now c.multipliers-u.result c.row_count.result c.row_count.ensures c.requires.outside c.requires.coefficients c.multipliers-u.ensures c.requires.there _ c.in-Some.minute c.in_ok-minute.ensures.truth c.in-Some.is).0

pub returns-clause-pivot : goal.returns-clause-pivot
returns-clause-pivot g c =
    (column_named (lawful g.F.Field.ops g.met.F.Field.laws) (g.R.Rows.system c.args.rows.now) (g.met.R.Rows.formed c.args.rows.now) (pivots_of c.args.pivots.now) c.requires.pivots c.args.row c.args.coefficients.now c.multipliers-u.result c.row_count.result c.row_count.ensures c.requires.outside c.requires.coefficients c.multipliers-u.ensures c.requires.there _ c.in-Some.minute c.in_ok-minute.ensures.truth c.in-Some.is).1
