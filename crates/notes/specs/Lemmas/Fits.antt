-- There is one proof at most that notes fit. Assumes nothing.
use Rattle.std.specs.Prelude.{ℕ, List, Option}
use Rattle.std.proofs.Props.{props}
use Rattle.field.specs.Operations.{Operations}
use Rattle.notes.specs.Notes.{NotesFit}

pub NotesFit-prop : {K : Operations} {m : ℕ} {codes : List (Option ℕ)} → IsProp (NotesFit K m codes)
NotesFit-prop = Prim.hlevel props
