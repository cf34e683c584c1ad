-- The law of every use: nothing that a block shows or disputes is wrong. A call of a block promises
-- `KeepsSafe K call b b'`, for the call with its arguments and its answer, and for what the block holds
-- before and after it: whatever list of calls it had had since it was made (`Had`), it has now had
-- these and this one, and nothing that it says is wrong (`Safe`). `new` promises both of no calls, so
-- that they hold after every list of calls. Assumes nothing.
use Rattle.std.specs.Prelude.{◌≡◌, ℕ, ◌<◌, ◌⊎◌, ◌↔◌, ⊤, List, [], ◌∷◌, length, Some, Ok, Option}
use Rattle.std.specs.Prelude.{slice_index_or}
use Rattle.std.specs.List.{Contains}
use Rattle.field.specs.Operations.{Operations}
use Rattle.rows.specs.Systems.{Row, empty_row}
use Rattle.rows.specs.Values.{Satisfies}
use Rattle.notes.specs.Notes.{noted_code, system_under}
use Rattle.solver.specs.Outcomes.{IsFailed}
use Rattle.solver.specs.Scouts.{ScoutMeaning}
use Rattle.solver.specs.Runs.{whole_run}
use Rattle.solver.specs.Laws.{RunLaws, SomeFalse}
use Rattle.receiver.specs.Stages.{IsSettled, IsDisputed}
use Rattle.receiver.specs.Contents.{Contents, rows_under_notes, shown_at, run_of, found_by}
use Rattle.receiver.specs.Uses.{Call, settle_call, Use, Reading, Taken, readings, frames}
use Rattle.receiver.specs.Uses.{codes_of, rows_of, system_of}

-- a choice of minutes: a code for each of the m minutes
abbrev pub IsChoice : Operations → ℕ → (ℕ → ℕ) → Type 0
IsChoice K m x = (c : ℕ) → c < m → x c < K.q

-- a choice fits a use: it has the code of every reading noted since the last clearing, and the
-- weights times its codes add up to the sum in every frame taken since then and not struck
pub record Fits (K : Operations) (calls : Use) (x : ℕ → ℕ) : Type 0 where
  pub read : (r : Reading) → Contains (readings calls) r → x r.minute ≡ r.code
  pub taken : (f : Taken) → Contains (frames calls) f → Satisfies K f.row x

-- what is shown at the m minutes is a choice, and fits the use
abbrev pub ShowsFit : Operations → ℕ → Use → Contents → Type 0
ShowsFit K m calls b =
    (x : ℕ → ℕ) × IsChoice K m x × ((c : ℕ) → c < m → shown_at b c ≡ Some (x c)) × Fits K calls x

-- an accepted settle told the truth: it failed exactly where one of its scout's answers was false
-- of the rows that it had, which are the frames before it, under the readings before it
abbrev pub ToldTruth : Operations → ℕ → Call → Use → Type 0
ToldTruth K m (settle_call exchanges (Ok outcome)) before =
    IsFailed outcome ↔ SomeFalse K (system_under K (codes_of before) (system_of m before)) exchanges
ToldTruth K m call before = ⊤

-- and so did each settle before it
abbrev pub AllToldTruth : Operations → ℕ → Use → Type 0
AllToldTruth K m [] = ⊤
AllToldTruth K m (call ∷ before) = ToldTruth K m call before × AllToldTruth K m before

-- nothing that a block of m minutes shows or disputes after a use is wrong
pub record Safe (K : Operations) (m : ℕ) (calls : Use) (b : Contents) : Type 0 where
  -- settled, it shows every minute, and what it shows fits; and what it shows in any stage fits
  pub settled : IsSettled b.state → ShowsFit K m calls b
  pub shown : (c code : ℕ) → shown_at b c ≡ Some code → ShowsFit K m calls b
  -- where it is disputed, no choice fits
  pub disputed : IsDisputed b.state → (x : ℕ → ℕ) → IsChoice K m x → ¬ Fits K calls x
  -- every accepted settle failed exactly where its scout lied
  pub settles : AllToldTruth K m calls

-- the codes that are noted are those of the readings
abbrev pub NotesAre : List (Option ℕ) → List Reading → Type 0
NotesAre codes rs =
    (c code : ℕ) →
    (noted_code codes c ≡ Some code) ↔ Contains rs (record { minute = c; code = code })

-- each frame stands at its number, and each other row is empty
pub record RowsAre (rows : List Row) (fs : List Taken) : Type 0 where
  pub frames : (f : Taken) → Contains fs f →
      (f.number < length rows) × (slice_index_or rows f.number empty_row ≡ f.row)
  pub others : (i : ℕ) → i < length rows →
      (slice_index_or rows i empty_row ≡ empty_row)
      ⊎ Contains fs (record { number = i; row = slice_index_or rows i empty_row })

-- a block of m minutes has had a use since it was made: it holds the notes and the rows that the use
-- says, these are its readings and its frames, and each of its settles told the truth
pub record Had (K : Operations) (m : ℕ) (calls : Use) (b : Contents) : Type 0 where
  pub width : b.system.width ≡ m
  pub codes : b.codes ≡ codes_of calls
  pub rows : b.system.rows ≡ rows_of calls
  pub read : NotesAre b.codes (readings calls)
  pub taken : RowsAre b.system.rows (frames calls)
  pub settles : AllToldTruth K m calls

-- a block that has had a use is safe
abbrev pub StaysSafe : Operations → Contents → Type 0
StaysSafe K b = (m : ℕ) (calls : Use) → Had K m calls b → Safe K m calls b

-- after a call, a block that had had a use has had that use and the call, and is safe
abbrev pub KeepsSafe : Operations → Call → Contents → Contents → Type 0
KeepsSafe K call b b' =
    (m : ℕ) (calls : Use) → Had K m calls b → Had K m (call ∷ calls) b' × Safe K m (call ∷ calls) b'

-- a block just made has had no calls, and is safe
abbrev pub BeginsSafe : Operations → Contents → Type 0
BeginsSafe K b = Had K b.system.width [] b × Safe K b.system.width [] b

-- the choice shown is the only one that fits
abbrev pub OnlyFit : Operations → ℕ → Use → Contents → Type 0
OnlyFit K m calls b =
    (y : ℕ → ℕ) → IsChoice K m y → Fits K calls y → (c : ℕ) → c < m → shown_at b c ≡ Some (y c)

-- after a call that leaves one choice only the choice shown fits what had been read and taken
abbrev pub LeavesOne : Operations → Contents → Contents → Type 0
LeavesOne K b b' = (m : ℕ) (calls : Use) → Had K m calls b → OnlyFit K m calls b'

-- the run of a settle is the one defined; with what it found, the minutes or the blame, it keeps the
-- laws of every run
pub record RunTold {X : Type 0} (K : Operations) (b : Contents)
    (M : ScoutMeaning X) (from : X) : Type 0 where
  pub defined : whole_run K (rows_under_notes K b) M from ≡ Some (run_of K b M from)
  pub laws : let r = run_of K b M from in
      RunLaws K (rows_under_notes K b) M from r (found_by r) (found_by r)
