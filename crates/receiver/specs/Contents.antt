-- What a block holds, and what its calls leave. Assumes nothing.
use Rattle.std.specs.Prelude.{◌≡◌, ℕ, cond, true, false, List, [], Some, Ok, Err}
use Rattle.std.specs.Prelude.{Option, Result, ◌==◌, length, slice_set}
use Rattle.std.specs.Option.{unwrap_or}
use Rattle.field.specs.Operations.{Operations}
use Rattle.rows.specs.declared.sizes.TheConstants.{MOST_MINUTES, MOST_ROWS}
use Rattle.rows.specs.Systems.{Row, System}
use Rattle.rows.specs.Values.{choice}
use Rattle.rows.specs.Ledgers.{appended, struck, cleared}
use Rattle.notes.specs.Notes.{no_codes, noted_code, put_in, system_under}
use Rattle.solver.specs.Outcomes.{Case}
use Rattle.solver.specs.Scouts.{ScoutMeaning}
use Rattle.solver.specs.Runs.{Ran, list_of, last_codes, whole_run}
use Rattle.receiver.specs.declared.stages.State.{State}
use Rattle.receiver.specs.declared.stages.State.TheVariants.{Gathering, Settled, Disputed}
use Rattle.receiver.specs.Stages.{IsSettled, shown_in, blamed_in, blame_in, slip_moved}

-- what a block holds: its name; its stage with what the last settle found; the codes that are noted;
-- the rows in its ledger; the ledger's limit, and its list of limits
pub record Contents : Type 0 where
  pub name : ℕ
  pub state : State
  pub codes : List (Option ℕ)
  pub system : System
  pub limit : ℕ
  pub limits : List ℕ

-- the rows that a settle is about: those in the ledger, under the notes
abbrev pub rows_under_notes : Operations → Contents → System
rows_under_notes K b = system_under K b.codes b.system

-- what `show` gives at a minute
abbrev pub shown_at : Contents → ℕ → Option ℕ
shown_at b c = shown_in b.state b.system.width c

-- a settled block shows the noted codes at their minutes
abbrev pub NotesShown : Contents → Type 0
NotesShown b =
    IsSettled b.state → (c code : ℕ) → noted_code b.codes c ≡ Some code → shown_at b c ≡ Some code

-- what `blame` gives at a row
abbrev pub blamed_at : Contents → ℕ → Option ℕ
blamed_at b i = blamed_in b.state (length b.system.rows) i

-- the same, with 0 for none
abbrev pub blame_of : Contents → ℕ → ℕ
blame_of b = blame_in b.state (length b.system.rows)

-- what a call leaves: what acceptance makes, and after a refusal what was there
abbrev pub left_by : {X A E : Type 0} → Result A E → X → X → X
left_by (Ok a) made was = made
left_by (Err e) made was = was

-- a block made over rows: without rows and notes, gathering
abbrev pub made : ℕ → System → ℕ → List ℕ → Contents
made name S limit limits =
    record {
      name = name;
      state = Gathering;
      codes = no_codes;
      system = cleared S;
      limit = limit;
      limits = limits;
    }

-- no rows, no notes, gathering
abbrev pub emptied : Contents → Contents
emptied b = record b { state = Gathering; codes = no_codes; system = cleared b.system }

-- a note more, gathering
abbrev pub with_note : Contents → ℕ → ℕ → Contents
with_note b c code = record b { state = Gathering; codes = slice_set b.codes c (Some code) }

-- a row more, gathering
abbrev pub with_row : Contents → Row → Contents
with_row b r = record b { state = Gathering; system = appended b.system r }

-- a row made empty, gathering
abbrev pub without_row : Contents → ℕ → Contents
without_row b i = record b { state = Gathering; system = struck b.system i }

-- the slip handed out, and taken back; the rest stays
abbrev pub handed_out : Contents → Contents
handed_out b = record b { state = slip_moved true b.state }

abbrev pub taken_back : Contents → Contents
taken_back b = record b { state = slip_moved false b.state }

-- stands where the definition gives no run, which never happens (`RunTold.defined`)
abbrev pub no_run : {X : Type 0} → X → Ran X
no_run scout =
    record {
      outcome = record { number = 0; values = [] };
      pivot_rows = [];
      pivot_columns = [];
      exchanges = [];
      scout = scout;
    }

-- the run of a settle
unfoldable pub run_of : {X : Type 0} → Operations → Contents → ScoutMeaning X → X → Ran X
run_of K b M scout = unwrap_or (whole_run K (rows_under_notes K b) M scout) (no_run scout)

-- the state after a run that ended so, with the minutes x or the blame u: solved, settled with x and
-- the noted codes put in; a contradiction, disputed with u and no slip out; failed, gathering
abbrev pub state_after : List (Option ℕ) → Case → (x u : ℕ → ℕ) → State
state_after codes outcome x u =
    cond (outcome.number == 1) (Settled (list_of MOST_MINUTES (put_in codes x)))
    (cond (outcome.number == 2)
    (Disputed (record { blame = list_of MOST_ROWS u; slip_out = false }))
    Gathering)

-- what a run found: the codes of its last question, which are x when it is solved, and u on a
-- contradiction
abbrev pub found_by : {X : Type 0} → Ran X → ℕ → ℕ
found_by r = choice (last_codes r.exchanges)

-- what a settle leaves, by its run
abbrev pub with_run : {X : Type 0} → Contents → Ran X → Contents
with_run b r = record b { state = state_after b.codes r.outcome (found_by r) (found_by r) }
