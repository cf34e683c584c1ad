use Rattle.std.specs.String.{string_bytes}
use Rattle.reports.proofs.Reporting.{text_reported}
use Rattle.reports.proofs.reports.text_of.Goals as goal

pub returns : goal.returns
returns g c =
    text_reported string_bytes g.F.Field.ops (g.R.Rows.system c.args.rows.now) c.args.outcome c.args.noted c.args.findings.now
    _ c.width.result c.shown.result.now c.profiled-count.ensures.profile c.width.ensures c.shown.ensures c.to_string.result c.to_string.ensures.ok
