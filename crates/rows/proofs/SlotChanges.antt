-- What a take and a strike leave in a table's slots. Assumes nothing.
use Rattle.std.proofs.Common.{◌≡◌, ℕ, ◌+◌, ◌<◌, List, map, [], ◌∷◌, ◌++◌, length, take, Some, None, Ok, Option, sym, ap, ◌∙◌, inl, inr, arith}
use Rattle.std.specs.Prelude.{slice_index_or, slice_set}
use Rattle.std.proofs.Math.Seq.{take-set-lt}
use Rattle.std.proofs.lemmas.List.{get_or-set_same, get_or-set_other, map-set, map_push, take_more_set}
use Rattle.std.proofs.lemmas.Bool.{cases_eq}
use Rattle.frame.specs.declared.frames.Frame.{Frame}
use Rattle.frame.specs.declared.buffers.FrameBuf.{FrameBuf}
use Rattle.frame.specs.Frames.{minute_at}
use Rattle.frame.specs.Parts.{sum_of, terms_of}
use Rattle.frame.specs.Owned.{sum_in, terms_in}
use Rattle.rows.specs.declared.sizes.TheConstants.{MOST_ROWS}
use Rattle.rows.specs.declared.tables.Table.{Table}
use Rattle.rows.specs.Systems.{empty_row}
use Rattle.rows.specs.Ledgers.{row_of, admit_answer, take_answer}
use Rattle.rows.specs.Slots.{slot_row}
use Rattle.rows.specs.Tables.{system_of}
use Rattle.rows.specs.Lemmas.SlotRows.{row_count, slots_fit}
use Rattle.rows.proofs.Beyond.{taken_below, taken_room, taken_number}

-- what a strike leaves, and a take
pub rows_struck : (n : ℕ) (slots : List (Option FrameBuf)) (i : ℕ) → i < n → map slot_row (take n (slice_set slots i None)) ≡ slice_set (map slot_row (take n slots)) i empty_row
rows_struck n slots i h = ap (map slot_row) (take-set-lt n slots i None h) ∙ map-set slot_row (take n slots) i None

pub rows_taken : (n : ℕ) (slots : List (Option FrameBuf)) (s : Option FrameBuf) → n < length slots → map slot_row (take (n + 1) (slice_set slots n s)) ≡ map slot_row (take n slots) ++ (slot_row s ∷ [])
rows_taken n slots s h = ap (map slot_row) (take_more_set slots n s h) ∙ map_push slot_row (take n slots) s

-- take's answer, by the number of slots counted
pub table_answer : (t : Table) (m limit : ℕ) (f : Frame) → m ≡ t.width.number → admit_answer m t.count limit (terms_of f) ≡ take_answer (system_of t) limit (row_of f)
table_answer t m limit f wide =
    ap (λ w. admit_answer w t.count limit (terms_of f)) wide
    ∙ ap (λ n. admit_answer t.width.number n limit (terms_of f)) (sym (row_count t.count t.slots (slots_fit t)))

-- a frame that is admitted goes into the next slot
module _ (t : Table) (held : FrameBuf) (f : Frame) (row : ℕ) (holds : terms_in held ≡ terms_of f) (admits : Ok row ≡ take_answer (system_of t) MOST_ROWS (row_of f)) where
  next_row : row ≡ t.count
  next_row = taken_number (system_of t) MOST_ROWS (row_of f) row admits ∙ row_count t.count t.slots (slots_fit t)

  pub has_room : row < MOST_ROWS
  has_room =
      let counted = row_count t.count t.slots (slots_fit t) in
      let next = next_row in
      let room = taken_room (system_of t) MOST_ROWS (row_of f) row admits in
      omega arith

  pub still_below : (i k : ℕ) → i < row + 1 → k < length (slot_row (slice_index_or (slice_set t.slots row (Some held)) i None)).terms → minute_at (slot_row (slice_index_or (slice_set t.slots row (Some held)) i None)).terms k < t.width.number
  still_below i k h =
      elim (cases_eq i row) [
        | inl same ↦
            let there : row < length t.slots = omega (arith, t.room, has_room) in
            rw (same, get_or-set_same t.slots row (Some held) None there, holds) (taken_below (system_of t) MOST_ROWS (row_of f) row admits k)
        | inr other ↦
            let l : i < t.count = omega (arith, next_row) in
            rw (get_or-set_other t.slots row i (Some held) None other) (t.below i k l)
      ]

  pub rows_after : sum_in held ≡ sum_of f → map slot_row (take (row + 1) (slice_set t.slots row (Some held))) ≡ map slot_row (take t.count t.slots) ++ (row_of f ∷ [])
  rows_after sums =
      rows_taken row t.slots (Some held) (omega (arith, t.room, has_room))
      ∙ ap (λ n. map slot_row (take n t.slots) ++ (slot_row (Some held) ∷ [])) next_row
      ∙ ap (λ ts. map slot_row (take t.count t.slots) ++ (record { sum = sum_in held; terms = ts } ∷ [])) holds
      ∙ ap (λ b. map slot_row (take t.count t.slots) ++ (record { sum = b; terms = terms_of f } ∷ [])) sums
