use Rattle.std.proofs.Common.{arith}
use Rattle.std.proofs.lemmas.Grind.{common_steps}
use Rattle.lines.proofs.Opened.{reads_entry}
use Rattle.lines.proofs.entries.read_entry.Goals as goal

pub returns-in_err-kind-clause-exact : goal.returns-in_err-kind-clause-exact
returns-in_err-kind-clause-exact c = reads_entry _ _ (grind (arith, common_steps))

pub returns-in_err-read_opening-in-Open-clause-exact : goal.returns-in_err-read_opening-in-Open-clause-exact
returns-in_err-read_opening-in-Open-clause-exact c = reads_entry _ _ (grind (arith, common_steps))

pub returns-in_err-read_fields-in-Frame-clause-exact : goal.returns-in_err-read_fields-in-Frame-clause-exact
returns-in_err-read_fields-in-Frame-clause-exact c = reads_entry _ _ (grind (arith, common_steps))

pub returns-in_ok-read_opening-in-Open-clause-exact : goal.returns-in_ok-read_opening-in-Open-clause-exact
returns-in_ok-read_opening-in-Open-clause-exact c = reads_entry _ _ (grind (arith, common_steps))

pub returns-in_ok-read_fields-in-Frame-clause-exact : goal.returns-in_ok-read_fields-in-Frame-clause-exact
returns-in_ok-read_fields-in-Frame-clause-exact c = reads_entry _ _ (grind (arith, common_steps))
