-- The places below the counter have their codes. Assumes nothing.
use Rattle.field.specs.Slices.{Filled}
use Rattle.rows.specs.Values.{choice}
use Rattle.notes.specs.Notes.{put_in}
use Rattle.notes.proofs.layers.Noted.put_in.Given as goal

abbrev pub invariant-loop-minute : goal.invariant-loop-minute
invariant-loop-minute g l = Filled l.minute (put_in l.self.notes.codes (choice l.initial.x)) l.initial.x l.x
