use Rattle.notes.proofs.NoNotes.{no_codes_fit}
use Rattle.notes.proofs.layers.Noted.new.Goals as goal

pub invariant_of-result : goal.invariant_of-result
invariant_of-result g c = record { fits = no_codes_fit g.F.Field.ops (g.R.Rows.system c.args.rows).width c.new.result.codes c.new.ensures }
