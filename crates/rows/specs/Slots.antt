-- What a slot of a table holds. Assumes nothing.
use Rattle.std.specs.Prelude.{ℕ, List, Some, None, Option, slice_index_or}
use Rattle.frame.specs.declared.terms.Term.{Term}
use Rattle.frame.specs.declared.buffers.FrameBuf.{FrameBuf}
use Rattle.frame.specs.Owned.{sum_in, terms_in}
use Rattle.rows.specs.Systems.{Row, empty_row}

-- the row of a slot: a frame's, or an empty one
abbrev pub slot_row : Option FrameBuf → Row
slot_row (Some held) = record { sum = sum_in held; terms = terms_in held }
slot_row None = empty_row

-- the terms of the slot with a number, none past the last
abbrev pub slot_terms : List (Option FrameBuf) → ℕ → List Term
slot_terms slots i = (slot_row (slice_index_or slots i None)).terms
