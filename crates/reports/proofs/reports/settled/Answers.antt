use Rattle.std.proofs.Common.{subst, arith}
use Rattle.std.specs.Result.{IfOk}
use Rattle.solver.specs.Outcomes.{outcome_case, IsFailed}
use Rattle.solver.specs.Scouts.{scan_meaning}
use Rattle.solver.specs.Laws.{Settles}
use Rattle.reports.proofs.WorkSpaces.{settle_accepted}
use Rattle.reports.proofs.reports.settled.Goals as goal

pub unwrap-outcome-requires : goal.unwrap-outcome-requires
unwrap-outcome-requires g c = settle_accepted _ c.settle_by_scan.result c.settle_by_scan.ensures.answer (omega (arith, c.told-work))

pub returns : goal.returns
returns g c =
    let K = g.F.Field.ops in
    let S = g.R.Rows.system c.args.rows.now in
    record {
      before = c.new-findings.result;
      settles = λ scan. subst (λ r. IfOk r (Settles K S (scan_meaning K) scan scan c.new-findings.result c.settle_by_scan.new.findings)) c.unwrap-outcome.ensures (c.settle_by_scan.ensures.settles scan);
      never_failed = subst (λ r. IfOk r (λ o. IsFailed (outcome_case o) → ⊥)) c.unwrap-outcome.ensures c.settle_by_scan.ensures.never_fails;
    }
