use Rattle.std.specs.String.{string_bytes}
use Rattle.reports.proofs.Reporting.{reported}
use Rattle.reports.proofs.reports.report_on.Goals as goal

pub returns : goal.returns
returns g c =
    reported string_bytes g.F.Field.ops (g.R.Rows.system c.args.rows.now) c.settled-outcome.result.0 c.settled-outcome.result.1 c.settled-outcome.ensures c.text_of.result c.text_of.ensures
