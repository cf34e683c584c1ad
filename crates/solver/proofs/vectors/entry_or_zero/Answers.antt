use Rattle.std.proofs.Common.{ap, ◌∙◌}
use Rattle.std.specs.Option.{unwrap_or}
use Rattle.field.specs.LawsForAll.{lawful}
use Rattle.solver.proofs.Readings.{entry_read}
use Rattle.solver.proofs.vectors.entry_or_zero.Goals as goal

pub returns : goal.returns
returns g c =
    c.unwrap_or.ensures ∙ ap (λ r. unwrap_or r 0) c.entry.ensures ∙ entry_read (lawful g.F.Field.ops g.met.F.Field.laws) (g.R.Rows.system c.args.rows.now) (g.met.R.Rows.formed c.args.rows.now) c.args.row c.args.minute
