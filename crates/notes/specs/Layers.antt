-- What a layer of notes shows. Assumes nothing.
use Rattle.std.specs.Prelude.{ℕ, List, Option}
use Rattle.field.specs.declared.fields.Field as field
use Rattle.rows.specs.declared.reading.Rows as rows
use Rattle.rows.specs.Systems.{System}
use Rattle.notes.specs.declared.layers.Noted.{Noted}
use Rattle.notes.specs.Notes.{system_under}

-- the codes that are noted, by their minutes
abbrev pub codes_in :
    {X Y : Type 0} {F : field.Ghosts X} {R : rows.Ghosts Y} → Noted X Y F R → List (Option ℕ)
codes_in noted = noted.notes.codes

-- the rows below, and what they mean
abbrev pub below : {X Y : Type 0} {F : field.Ghosts X} {R : rows.Ghosts Y} → Noted X Y F R → Y
below noted = noted.below

abbrev pub system_below :
    {X Y : Type 0} {F : field.Ghosts X} {R : rows.Ghosts Y} → Noted X Y F R → System
system_below {R = R} noted = R.system noted.below

-- what the layer means
abbrev pub system_noted :
    {X Y : Type 0} {F : field.Ghosts X} {R : rows.Ghosts Y} → Noted X Y F R → System
system_noted {F = F} {R = R} noted = system_under F.ops noted.notes.codes (R.system noted.below)
