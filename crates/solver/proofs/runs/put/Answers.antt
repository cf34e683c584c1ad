use Rattle.std.proofs.Common.{Err, ap, arith, ◌∙◌}
use Rattle.solver.specs.Outcomes.{fault_case, failed_case}
use Rattle.solver.specs.Questions.{asked, verified}
use Rattle.solver.proofs.Puts.{failed_or, continues}
use Rattle.solver.proofs.runs.put.Goals as goal

pub returns-in-Ok-clause-continues : goal.returns-in-Ok-clause-continues
returns-in-Ok-clause-continues g c P row before same counted =
    let S = g.R.Rows.system c.args.rows.now in
    let q = asked c.args.question in
    continues g.F.Field.ops S g.S.Scout.meaning P row before c.args.scout.now c.ask-answer.new.self c.args.number (omega arith) q same c.ask-answer.ensures.after _
    (ap (failed_or c.args.number q) (c.in-Ok.ensures.answer ∙ ap (verified g.F.Field.ops S q) c.ask-answer.ensures.answer))

pub returns-in-Err-clause-continues : goal.returns-in-Err-clause-continues
returns-in-Err-clause-continues g c P row before same counted =
    let S = g.R.Rows.system c.args.rows.now in
    let q = asked c.args.question in
    continues g.F.Field.ops S g.S.Scout.meaning P row before c.args.scout.now c.ask-answer.new.self c.args.number (omega arith) q same c.ask-answer.ensures.after _
    (ap (λ s. Err (failed_case c.args.number s (fault_case c.in-Err.fault))) c.side.ensures
    ∙ ap (failed_or c.args.number q) (c.in-Err.ensures.answer ∙ ap (verified g.F.Field.ops S q) c.ask-answer.ensures.answer))
