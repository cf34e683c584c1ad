-- The rows of a table's slots. Assumes nothing.
use Rattle.std.specs.Prelude.{◌≡◌, ℕ, ◌<◌, ◌≤◌, List, map, length, take, Some, None, Option}
use Rattle.std.specs.Prelude.{slice_index_or}
use Rattle.std.proofs.Common.{sym, ap, subst, ◌∙◌, arith, lit≤, not-suc-le-zero}
use Rattle.std.proofs.lemmas.List.{length-map, length-take-le, get_or-map, get_or-take}
use Rattle.std.proofs.lemmas.List.{get_or_default}
use Rattle.std.specs.List.{slice_get}
use Rattle.std.proofs.lemmas.Option.{slice_get-get_or, slice_get_past}
use Rattle.frame.specs.declared.buffers.FrameBuf.{FrameBuf}
use Rattle.frame.specs.Frames.{minute_at}
use Rattle.rows.specs.declared.sizes.TheConstants.{MOST_ROWS}
use Rattle.rows.specs.declared.tables.Table.{Table}
use Rattle.rows.specs.Systems.{empty_row, WellFormedRow, WellFormed}
use Rattle.rows.specs.Ledgers.{LimitInRange}
use Rattle.rows.specs.Slots.{slot_row}
use Rattle.rows.specs.Tables.{system_of}

-- the rows of the first n slots
module _ (n : ℕ) (slots : List (Option FrameBuf)) (fits : n ≤ length slots) where
  pub row_count : length (map slot_row (take n slots)) ≡ n
  row_count = length-map (take n slots) slot_row ∙ length-take-le n slots fits

  pub slot_at :
      (i : ℕ) → i < n →
      slice_index_or (map slot_row (take n slots)) i empty_row
      ≡ slot_row (slice_index_or slots i None)
  slot_at i h =
      let long = length-take-le n slots fits in
      get_or-map slot_row (take n slots) i None empty_row (omega arith)
      ∙ ap slot_row (get_or-take n slots i None h)

  -- whatever is read past the last slot
  pub row_found :
      (i : ℕ) (d : Option FrameBuf) → i < n →
      slice_get (map slot_row (take n slots)) i ≡ Some (slot_row (slice_index_or slots i d))
  row_found i d h =
      let long = row_count in
      slice_get-get_or (map slot_row (take n slots)) i empty_row (omega arith)
      ∙ ap Some (slot_at i h ∙ ap slot_row (get_or_default slots i None d (omega arith)))

  pub row_missing : (i : ℕ) → n ≤ i → slice_get (map slot_row (take n slots)) i ≡ None
  row_missing i h =
      let long = row_count in
      slice_get_past (map slot_row (take n slots)) i (omega arith)

-- a table's slots are there
pub slots_fit : (t : Table) → t.count ≤ length t.slots
slots_fit t = omega (arith, t.room, t.few)

-- a slot's row is well-formed once its minutes are below the width
slot_formed :
    (m : ℕ) (s : Option FrameBuf) →
    ((k : ℕ) → k < length (slot_row s).terms → minute_at (slot_row s).terms k < m) →
    WellFormedRow m (slot_row s)
slot_formed m (Some held) below =
    record { word = held.word; below = below; rising = held.frame.rising; words = held.frame.words }
slot_formed m None below =
    record {
      word = omega arith;
      below = below;
      rising = λ j k l h. absurd (not-suc-le-zero h);
      words = λ k h. absurd (not-suc-le-zero h);
    }

pub table_formed : (t : Table) → WellFormed (system_of t)
table_formed t =
    let fits = slots_fit t in
    let counted = row_count t.count t.slots fits in
    record {
      some_minutes = t.width.some;
      few_minutes = t.width.most;
      few_rows = omega (arith, t.few);
      each = λ i h.
          let l : i < t.count = omega arith in
          let slot = slice_index_or t.slots i None in
          subst (WellFormedRow t.width.number) (sym (slot_at t.count t.slots fits i l))
          (slot_formed t.width.number slot (λ k. t.below i k l));
    }

-- a table has room for as many rows as there can be
pub table_limited : (t : Table) → LimitInRange MOST_ROWS
table_limited t = record { some = lit≤ tt; most = lit≤ tt }
