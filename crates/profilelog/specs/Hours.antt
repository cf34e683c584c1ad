-- What an hour is, how it is opened and how it is filled. Assumes nothing.
use Rattle.std.specs.Prelude.{[], Result}
use Rattle.frame.specs.Refusals.{RefusalCase}
use Rattle.lines.specs.declared.openings.FieldName.{FieldName}
use Rattle.lines.specs.declared.openings.Opening.{Opening}
use Rattle.lines.specs.Reading.{map_ok}
use Rattle.rows.specs.declared.sizes.TheConstants.{MOST_MINUTES, MOST_ROWS}
use Rattle.rows.specs.Sizes.{size_answer}
use Rattle.rows.specs.Systems.{Row, System}
use Rattle.rows.specs.Ledgers.{take_answer, after_take}

-- the name of the field to calculate in, and what the rows mean
pub record OpenHour : Type 0 where
  pub field : FieldName
  pub system : System

-- the hour that is opened, for a width of 1 to 64: it has no rows
abbrev pub opened : Opening → Result OpenHour RefusalCase
opened o =
    map_ok (λ width. record { field = o.field; system = record { width = width; rows = [] } })
    (size_answer MOST_MINUTES o.width)

-- what a table takes of a row: it has room for 96
abbrev pub filled : OpenHour → Row → OpenHour
filled h r =
    let answer = take_answer h.system MOST_ROWS r in
    record { field = h.field; system = after_take answer h.system r }
