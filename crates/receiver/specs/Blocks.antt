-- What a block holds, by its parts. Assumes nothing.
use Rattle.field.specs.declared.fields.Field as field
use Rattle.rows.specs.declared.reading.Rows as rows
use Rattle.rows.specs.declared.ledgers.Ledger as ledgers
use Rattle.notes.specs.declared.layers.Noted.{Noted}
use Rattle.receiver.specs.declared.blocks.Block.{Block}
use Rattle.notes.specs.Layers.{codes_in, below, system_below}
use Rattle.receiver.specs.Contents.{Contents}

-- a block's rows with their notes
abbrev pub noted_in :
    {X Y : Type 0} {F : field.Ghosts X} {L : ledgers.Ghosts Y} {R : rows.Ghosts Y} →
    Block X Y F L R → Noted X Y F R
noted_in block = block.noted

-- its ledger
abbrev pub ledger_in :
    {X Y : Type 0} {F : field.Ghosts X} {L : ledgers.Ghosts Y} {R : rows.Ghosts Y} →
    Block X Y F L R → Y
ledger_in block = below block.noted

-- all that it holds
abbrev pub contents :
    {X Y : Type 0} {F : field.Ghosts X} {L : ledgers.Ghosts Y} {R : rows.Ghosts Y} →
    Block X Y F L R → Contents
contents {L = L} block =
    record {
      name = block.name;
      state = block.state;
      codes = codes_in block.noted;
      system = system_below block.noted;
      limit = L.most (below block.noted);
      limits = L.limits (below block.noted);
    }
