-- The kinds of line, and their letters. Assumes nothing.
use Rattle.std.specs.Prelude.{ℕ, cond, List, length, Some, None, Option, ◌==◌, nat_le}
use Rattle.std.specs.Option.{option_and_then}
use Rattle.lines.specs.declared.kinds.LineKind.{LineKind}
use Rattle.lines.specs.declared.kinds.LineKind.TheVariants.{Open, Frame}
use Rattle.lines.specs.Fields.{fields_of}
use Rattle.lines.specs.Tokens.{first_letter}

-- the letter that begins a line of this kind: O or F
abbrev pub kind_letter : LineKind → ℕ
kind_letter Open = 79
kind_letter Frame = 70

-- the kind of line that a letter begins
abbrev pub kind_of : ℕ → Option LineKind
kind_of letter = cond (letter == 79) (Some Open) (cond (letter == 70) (Some Frame) None)

-- the kind of a line: at most 256 bytes, of which the first field is a letter that begins a kind
abbrev pub line_kind : List ℕ → Option LineKind
line_kind line = cond (nat_le (length line) 256) (option_and_then kind_of (first_letter (fields_of line))) None

-- the letter of the answer to a line of this kind: a question mark where the kind is unknown
abbrev pub shown_letter : Option LineKind → ℕ
shown_letter None = 63
shown_letter (Some kind) = kind_letter kind
