use Rattle.solver.proofs.Verifying.{first_not_false}
use Rattle.solver.proofs.RunLaws.{not_failed}
use Rattle.solver.proofs.runs.settle_by_scan.Goals as goal

pub returns-clause-never_fails : goal.returns-clause-never_fails
returns-clause-never_fails g c = not_failed g.F.Field.ops (g.R.Rows.system c.args.rows.now) _ _ _ _ _ c.settle.result (λ state q. first_not_false g.F.Field.ops (g.R.Rows.system c.args.rows.now) q) c.settle.ensures.settles
