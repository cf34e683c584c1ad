-- Which lines are accepted, and what they leave. Assumes nothing.
use Rattle.std.specs.Prelude.{◌≡◌, ℕ, ◌<◌, ◌≤◌, List, [], ◌∷◌, ◌++◌, length}
use Rattle.std.specs.Prelude.{Some, None, Ok, Err, Option}
use Rattle.frame.specs.declared.terms.Term.{Term}
use Rattle.frame.specs.Refusals.{RefusalCase}
use Rattle.frame.specs.Frames.{minute_at}
use Rattle.lines.specs.declared.openings.Opening.{Opening}
use Rattle.lines.specs.Frames.{line_of, IsFrame}
use Rattle.lines.specs.Openings.{opening_line}
use Rattle.profilelog.specs.Hours.{OpenHour}
use Rattle.profilelog.specs.Sessions.{line_answer, after_line}

-- the hour of an opening, without rows
abbrev pub new_hour : Opening → OpenHour
new_hour o = record { field = o.field; system = record { width = o.width; rows = [] } }

-- the hour with one row more
abbrev pub row_more : OpenHour → ℕ → List Term → OpenHour
row_more h s ts =
    let rows = h.system.rows ++ record { sum = s; terms = ts } ∷ [] in
    record { field = h.field; system = record { width = h.system.width; rows = rows } }

-- An opening that makes an hour, and a line that is its own.
pub record OpensHour (line : List ℕ) (o : Opening) : Type 0 where
  pub is : line ≡ opening_line o
  pub some : 1 ≤ o.width
  pub most : o.width ≤ 64

-- A frame that an hour has room for, and a line that is its own.
pub record FillsHour (h : OpenHour) (line : List ℕ) (s : ℕ) (ts : List Term) : Type 0 where
  pub frame : IsFrame s ts
  pub is : line ≡ line_of s ts
  pub below : (k : ℕ) → k < length ts → minute_at ts k < h.system.width
  pub room : length h.system.rows < 96

-- Where no hour is open, exactly the lines of openings for 1 to 64 minutes are accepted. Where one
-- is, exactly the lines of frames with all minutes below its width are, as long as it has fewer
-- than 96 rows: each adds its row as the last. Any other line leaves the hour as it was.
pub record SessionLaws : Type 0 where
  pub opened : (line : List ℕ) (o : Opening) → OpensHour line o →
      (line_answer None line ≡ Ok o.width) × (after_line None line ≡ Some (new_hour o))
  pub only_opened : (line : List ℕ) (n : ℕ) → line_answer None line ≡ Ok n →
      (o : Opening) × OpensHour line o
  pub filled : (h : OpenHour) (line : List ℕ) (s : ℕ) (ts : List Term) → FillsHour h line s ts →
      (line_answer (Some h) line ≡ Ok (length h.system.rows))
      × (after_line (Some h) line ≡ Some (row_more h s ts))
  pub only_filled : (h : OpenHour) (line : List ℕ) (n : ℕ) → line_answer (Some h) line ≡ Ok n →
      (s : ℕ) × (ts : List Term) × FillsHour h line s ts
  pub refused : (hour : Option OpenHour) (line : List ℕ) (e : RefusalCase) →
      line_answer hour line ≡ Err e → after_line hour line ≡ hour
