use Rattle.std.specs.String.{string_bytes}
use Rattle.notes.specs.Layers.{codes_in, system_below}
use Rattle.reports.proofs.Reporting.{reported_noted}
use Rattle.reports.proofs.reports.report_noted.Goals as goal

pub returns : goal.returns
returns g c =
    reported_noted string_bytes g.F.Field.ops (codes_in c.args.noted.now) (system_below c.args.noted.now) c.settled-outcome.result.0 c.settled-outcome.result.1 c.settled-outcome.ensures
    c.put_in.new.x c.put_in.ensures.codes c.noted_count.result c.noted_count.ensures.count c.text_of.result c.text_of.ensures
