-- Reading a line of any kind. Assumes nothing.
use Rattle.std.specs.Prelude.{◌≡◌, ℕ, ◌<◌, List, drop, Some, None, Ok, Err, Option, Result}
use Rattle.frame.specs.declared.terms.Term.{Term}
use Rattle.frame.specs.Refusals.{RefusalCase, refused}
use Rattle.lines.specs.declared.kinds.LineKind.{LineKind}
use Rattle.lines.specs.declared.kinds.LineKind.TheVariants as kinds
use Rattle.lines.specs.declared.openings.Opening.{Opening}
use Rattle.lines.specs.declared.entries.Entry.{Entry}
use Rattle.lines.specs.declared.entries.Entry.TheVariants.{Open, Frame}
use Rattle.lines.specs.Fields.{Field, fields_of}
use Rattle.lines.specs.Frames.{line_of, IsFrame}
use Rattle.lines.specs.Kinds.{line_kind}
use Rattle.lines.specs.Openings.{read_opening, opening_line}
use Rattle.lines.specs.Reading.{Content, content, content_of, map_ok, read_fields}

-- what a line says: it opens an hour, or carries a frame
pub data Said : Type 0 where
  opens : Opening → Said
  carries : Content → Said

abbrev pub said : Entry → Said
said (Open o) = opens o
said (Frame b) = carries (content_of b)

-- the fields behind the letter, by the line's kind
abbrev pub by_kind : Option LineKind → List Field → Result Said RefusalCase
by_kind None fs = Err (refused 13 0)
by_kind (Some kinds.Open) fs = map_ok opens (read_opening fs)
by_kind (Some kinds.Frame) fs = map_ok carries (read_fields fs)

abbrev pub read_entry : List ℕ → Result Said RefusalCase
read_entry line = by_kind (line_kind line) (drop 1 (fields_of line))

-- r is what the line says: an opening exactly where the bytes are that opening's line, a frame exactly where they are that
-- frame's line
pub record ReadsEntry (line : List ℕ) (r : Result Said RefusalCase) : Type 0 where
  pub only_opening : (o : Opening) → r ≡ Ok (opens o) → (o.width < 65536) × (line ≡ opening_line o)
  pub each_opening : (o : Opening) → o.width < 65536 → line ≡ opening_line o → r ≡ Ok (opens o)
  pub only_frame : (s : ℕ) (ts : List Term) → r ≡ Ok (carries (content s ts)) → IsFrame s ts × (line ≡ line_of s ts)
  pub each_frame : (s : ℕ) (ts : List Term) → IsFrame s ts → line ≡ line_of s ts → r ≡ Ok (carries (content s ts))
