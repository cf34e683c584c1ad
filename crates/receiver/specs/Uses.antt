-- Uses of a block: the calls that were made, and what these say of readings and frames. Assumes
-- nothing.
use Rattle.std.specs.Prelude.{ℕ, ◌++◌, List, [], ◌∷◌, Some, Ok, Option, Result, ◌==◌, not}
use Rattle.std.specs.Prelude.{slice_set}
use Rattle.std.specs.List.{filter}
use Rattle.frame.specs.Refusals.{RefusalCase}
use Rattle.rows.specs.Systems.{Row, System, empty_row}
use Rattle.notes.specs.Notes.{no_codes}
use Rattle.solver.specs.Outcomes.{Case}
use Rattle.solver.specs.Runs.{Exchange}

-- a call that was made on a block: with what, and how it was answered; of a settle also what its
-- scout was asked and answered, the newest first; a frame is told as its row, a slip by its name
pub data Call : Type 0 where
  note_call : (minute code : ℕ) → Result (Unit {0}) RefusalCase → Call
  take_call : Row → Result ℕ RefusalCase → Call
  settle_call : List Exchange → Result Case RefusalCase → Call
  slip_call : Result ℕ RefusalCase → Call
  strike_call : (name row : ℕ) → Result (Unit {0}) RefusalCase → Call
  give_back_call : (name : ℕ) → Result (Unit {0}) RefusalCase → Call
  abandon_call : (name : ℕ) → Result (Unit {0}) RefusalCase → Call
  clear_call : Result (Unit {0}) RefusalCase → Call

-- a use: the calls on a block since it was made, the newest first, refused ones among them
abbrev pub Use : Type 0
Use = List Call

-- what a call does to readings and frames
pub data Effect : Type 0 where
  notes : (minute code : ℕ) → Effect
  takes : (number : ℕ) → Row → Effect
  strikes : (number : ℕ) → Effect
  clears : Effect
  nothing : Effect

-- an accepted note notes a reading, and an accepted take takes a frame, with the number that it
-- returned; an accepted strike strikes the frame of a number; an accepted clear or abandon is a
-- clearing
abbrev pub effect : Call → Effect
effect (note_call c code (Ok u)) = notes c code
effect (take_call r (Ok n)) = takes n r
effect (strike_call name n (Ok u)) = strikes n
effect (abandon_call name (Ok u)) = clears
effect (clear_call (Ok u)) = clears
effect call = nothing

-- what the calls of a use make, one after the other, of what holds of a block just made
abbrev pub said_by : {X : Type 0} → (Effect → X → X) → X → Use → X
said_by after start [] = start
said_by after start (call ∷ calls) = after (effect call) (said_by after start calls)

-- a reading: a code noted for a minute
pub record Reading : Type 0 where
  pub minute : ℕ
  pub code : ℕ

-- a frame that was taken, and its number
pub record Taken : Type 0 where
  pub number : ℕ
  pub row : Row

-- readings after a call more
abbrev pub read_after : Effect → List Reading → List Reading
read_after (notes c code) rs = record { minute = c; code = code } ∷ rs
read_after clears rs = []
read_after other rs = rs

-- the readings noted since the last clearing
abbrev pub readings : Use → List Reading
readings = said_by read_after []

-- frames after a call more
abbrev pub taken_after : Effect → List Taken → List Taken
taken_after (takes n r) fs = record { number = n; row = r } ∷ fs
taken_after (strikes n) fs = filter (λ f. not (f.number == n)) fs
taken_after clears fs = []
taken_after other fs = fs

-- the frames taken since the last clearing and not struck
abbrev pub frames : Use → List Taken
frames = said_by taken_after []

-- rows after a call more
abbrev pub rows_after : Effect → List Row → List Row
rows_after (takes n r) rs = rs ++ (r ∷ [])
rows_after (strikes n) rs = slice_set rs n empty_row
rows_after clears rs = []
rows_after other rs = rs

-- the rows of a settle: the frames taken since the last clearing, in order, a struck one empty
abbrev pub rows_of : Use → List Row
rows_of = said_by rows_after []

-- noted codes after a call more
abbrev pub codes_after : Effect → List (Option ℕ) → List (Option ℕ)
codes_after (notes c code) codes = slice_set codes c (Some code)
codes_after clears codes = no_codes
codes_after other codes = codes

-- the notes of a settle: the code of each reading noted since the last clearing, at its minute
abbrev pub codes_of : Use → List (Option ℕ)
codes_of = said_by codes_after no_codes

-- the rows of an hour of m minutes
abbrev pub system_of : ℕ → Use → System
system_of m calls = record { width = m; rows = rows_of calls }
