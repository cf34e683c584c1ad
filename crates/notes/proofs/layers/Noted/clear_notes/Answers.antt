use Rattle.notes.proofs.NoNotes.{no_codes_fit}
use Rattle.notes.proofs.layers.Noted.clear_notes.Goals as goal

pub invariant_of-self : goal.invariant_of-self
invariant_of-self g c = record { fits = no_codes_fit g.F.Field.ops (g.R.Rows.system c.args.self.now.below).width c.new-self.result.codes c.new-self.ensures }
