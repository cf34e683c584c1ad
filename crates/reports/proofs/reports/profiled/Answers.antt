use Rattle.std.proofs.Common.{subst, arith}
use Rattle.std.specs.Result.{IfOk}
use Rattle.solver.specs.Profiling.{Profiles}
use Rattle.reports.proofs.Heads.{profile_taken}
use Rattle.reports.proofs.reports.profiled.Goals as goal

pub returns-clause-profile : goal.returns-clause-profile
returns-clause-profile g c =
    let K = g.F.Field.ops in
    let S = g.R.Rows.system c.args.rows.now in
    let few = (g.met.R.Rows.formed c.args.rows.now).few_rows in
    let found = subst (λ r. IfOk r (Profiles K S c.args.list.now c.profile.new.list)) c.unwrap.ensures c.profile.ensures.profiles in
    profile_taken K S c.args.list.now c.profile.new.list c.unwrap.result found (omega (arith, found.at_most, c.told-list))
