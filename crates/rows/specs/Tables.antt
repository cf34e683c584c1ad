-- What a table means. Assumes nothing.
use Rattle.std.specs.Prelude.{map, take}
use Rattle.rows.specs.declared.tables.Table.{Table}
use Rattle.rows.specs.Systems.{System}
use Rattle.rows.specs.Slots.{slot_row}

-- the rows of the slots that are counted
abbrev pub system_of : Table → System
system_of t = record { width = t.width.number; rows = map slot_row (take t.count t.slots) }
