use Rattle.std.proofs.Common.{None, Ok, Err, rules}
use Rattle.solver.specs.declared.faults.Fault.TheVariants.{Missed, Zero, NoPlace}
use Rattle.solver.specs.Outcomes.{fault_case}
use Rattle.solver.specs.Questions.{asked}
use Rattle.solver.proofs.Verifying.{verifies_as}
use Rattle.solver.proofs.faults.verify.Goals as goal

pub returns-in-Some-first_place-clause-verifies : goal.returns-in-Some-first_place-clause-verifies
returns-in-Some-first_place-clause-verifies g c = verifies_as g.F.Field.ops (g.R.Rows.system c.args.rows.now) (asked c.args.question) c.args.answer (Err (fault_case (Missed c.in-Some-first_place.place))) (search rules)

pub returns-in-None-clause-verifies : goal.returns-in-None-clause-verifies
returns-in-None-clause-verifies g c = verifies_as g.F.Field.ops (g.R.Rows.system c.args.rows.now) (asked c.args.question) c.args.answer (Ok None) (search rules)

pub returns-in-Some-eq0-clause-verifies : goal.returns-in-Some-eq0-clause-verifies
returns-in-Some-eq0-clause-verifies g c = verifies_as g.F.Field.ops (g.R.Rows.system c.args.rows.now) (asked c.args.question) c.args.answer (Err (fault_case (Zero c.in-Some.place))) (search rules)

pub returns-in-None-value-clause-verifies : goal.returns-in-None-value-clause-verifies
returns-in-None-value-clause-verifies g c = verifies_as g.F.Field.ops (g.R.Rows.system c.args.rows.now) (asked c.args.question) c.args.answer (Err (fault_case (NoPlace c.in-Some.place))) (search rules)
