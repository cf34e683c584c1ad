-- What each line answers and leaves, by the hour that is open. Assumes nothing.
use Rattle.std.specs.Prelude.{◌≡◌, ℕ, Bool, cond, List, [], ◌∷◌, ◌++◌, take}
use Rattle.std.specs.Prelude.{Some, None, Ok, Err, Option, Result}
use Rattle.std.specs.Option.{is_some, is_none}
use Rattle.frame.specs.Refusals.{RefusalCase, refused}
use Rattle.lines.specs.declared.kinds.LineKind.{LineKind}
use Rattle.lines.specs.declared.kinds.LineKind.TheVariants.{Open, Frame}
use Rattle.lines.specs.declared.openings.Opening.{Opening}
use Rattle.lines.specs.Answers.{answer_line}
use Rattle.lines.specs.Entries.{Said, opens, carries, read_entry}
use Rattle.lines.specs.Kinds.{line_kind}
use Rattle.lines.specs.Reading.{Content, map_ok, and_then}
use Rattle.lines.proofs.Fronts.{front_kind, front_entry}
use Rattle.rows.specs.declared.sizes.TheConstants.{MOST_ROWS}
use Rattle.rows.specs.Systems.{Row}
use Rattle.rows.specs.Ledgers.{take_answer}
use Rattle.framelog.specs.Machines.{Machine, KnowsFronts}
use Rattle.profilelog.specs.Hours.{OpenHour, opened, filled}

-- whether a line of this kind is in turn: an hour is opened once, and frames come behind
abbrev pub in_turn : Option OpenHour → LineKind → Bool
in_turn hour Open = is_none hour
in_turn hour Frame = is_some hour

-- what a line says, which has this kind and reads like that; unknown or out of turn it is refused
-- by 13, whatever else it says
abbrev pub heard_as :
    Option OpenHour → Option LineKind → Result Said RefusalCase → Result Said RefusalCase
heard_as hour None entry = Err (refused 13 0)
heard_as hour (Some kind) entry = cond (in_turn hour kind) entry (Err (refused 13 0))

abbrev pub heard : Option OpenHour → List ℕ → Result Said RefusalCase
heard hour line = heard_as hour (line_kind line) (read_entry line)

-- opening an hour: the answer is its width
abbrev pub open_answer : Opening → Result ℕ RefusalCase
open_answer o = map_ok (λ h. h.system.width) (opened o)

abbrev pub opened_or : Result OpenHour RefusalCase → Option OpenHour → Option OpenHour
opened_or (Ok h) hour = Some h
opened_or (Err e) hour = hour

abbrev pub after_open : Option OpenHour → Opening → Option OpenHour
after_open hour o = opened_or (opened o) hour

-- a frame's row goes into the hour: the answer is its number
abbrev pub frame_answer : Option OpenHour → Row → Result ℕ RefusalCase
frame_answer None r = Err (refused 13 0)
frame_answer (Some h) r = take_answer h.system MOST_ROWS r

abbrev pub after_frame : Option OpenHour → Row → Option OpenHour
after_frame None r = None
after_frame (Some h) r = Some (filled h r)

abbrev pub row : Content → Row
row c = record { sum = c.sum; terms = c.terms }

-- by what a line says
abbrev pub entry_answer : Option OpenHour → Said → Result ℕ RefusalCase
entry_answer hour (opens o) = open_answer o
entry_answer hour (carries c) = frame_answer hour (row c)

abbrev pub after_entry : Option OpenHour → Said → Option OpenHour
after_entry hour (opens o) = after_open hour o
after_entry hour (carries c) = after_frame hour (row c)

-- a line's answer: the number that it is accepted with, or its refusal
abbrev pub line_answer : Option OpenHour → List ℕ → Result ℕ RefusalCase
line_answer hour line = and_then (heard hour line) (entry_answer hour)

-- and what it leaves: a refused line leaves the hour as it was
abbrev pub after_heard : Option OpenHour → Result Said RefusalCase → Option OpenHour
after_heard hour (Ok entry) = after_entry hour entry
after_heard hour (Err e) = hour

abbrev pub after_line : Option OpenHour → List ℕ → Option OpenHour
after_line hour line = after_heard hour (heard hour line)

abbrev pub session_machine : Machine (Option OpenHour)
session_machine = record {
  output = λ hour line. answer_line (line_kind line) (line_answer hour line) ++ 10 ∷ [];
  next = after_line;
}

-- a line is heard as its front is
front_heard :
    (hour : Option OpenHour) (line : List ℕ) → heard hour (take 257 line) ≡ heard hour line
front_heard hour line = λ i. heard_as hour (front_kind line i) (front_entry line i)

pub knows_fronts : KnowsFronts session_machine
knows_fronts = record {
  output = λ hour line i.
      let answer = and_then (front_heard hour line i) (entry_answer hour) in
      answer_line (front_kind line i) answer ++ 10 ∷ [];
  next = λ hour line i. after_heard hour (front_heard hour line i);
}
