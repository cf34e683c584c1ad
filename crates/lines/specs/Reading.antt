-- Reading the line of a frame: what is refused, in which order, and what else it says. Assumes nothing.
use Rattle.std.specs.Prelude.{◌≡◌, ℕ, ◌%◌, cond, List, [], ◌∷◌, length, take, drop, Some, None, Ok, Err, Option, Result, MatchOption, MatchResult, ◌==◌}
use Rattle.std.specs.Option.{ok_or}
use Rattle.arrayvec.specs.ArrayVec.{ArrayVec}
use Rattle.frame.specs.declared.terms.Term.{Term}
use Rattle.frame.specs.declared.buffers.FrameBuf.{FrameBuf}
use Rattle.frame.specs.Frames.{check}
use Rattle.frame.specs.Refusals.{RefusalCase, refused}
use Rattle.frame.specs.Owned.{sum_in, terms_in}
use Rattle.lines.specs.declared.kinds.LineKind.{LineKind}
use Rattle.lines.specs.declared.kinds.LineKind.TheVariants.{Open, Frame}
use Rattle.lines.specs.declared.fields.Fields.{Fields}
use Rattle.lines.specs.Fields.{Field, fields_of}
use Rattle.lines.specs.Frames.{flat, line_of, IsFrame}
use Rattle.lines.specs.Kinds.{line_kind}
use Rattle.lines.specs.Numbers.{number_of}
use Rattle.lines.specs.Tokens.{to_come}

-- what a frame's line says
pub record Content : Type 0 where
  pub sum : ℕ
  pub terms : List Term

abbrev pub content : ℕ → List Term → Content
content s ts = record { sum = s; terms = ts }

abbrev pub content_of : FrameBuf → Content
content_of b = content (sum_in b) (terms_in b)

abbrev pub map_ok : {X Y E : Type 0} → (X → Y) → Result X E → Result Y E
map_ok f (Ok x) = Ok (f x)
map_ok f (Err e) = Err e

abbrev pub and_then : {X Y E : Type 0} → Result X E → (X → Result Y E) → Result Y E
and_then (Ok x) f = f x
and_then (Err e) f = Err e

-- the number that a field writes, or 15 with the field's offset
abbrev pub number_at : Field → Result ℕ RefusalCase
number_at f = ok_or (number_of f.text) (refused 15 f.at)

-- the numbers that fields write, or the refusal of the first field that is none
abbrev pub numbers : List Field → Result (List ℕ) RefusalCase
numbers [] = Ok []
numbers (f ∷ fs) = and_then (number_at f) (λ n. map_ok (λ ns. n ∷ ns) (numbers fs))

-- the number of the first of some fields
abbrev pub first_number : List Field → Result ℕ RefusalCase
first_number [] = Err (refused 14 0)
first_number (f ∷ fs) = number_at f

-- minute, weight, minute, weight, .. as terms
abbrev pub pairs : List ℕ → List Term
pairs [] = []
pairs (m ∷ []) = []
pairs (m ∷ w ∷ ns) = record { minute = m; weight = w } ∷ pairs ns

-- a sum with terms that pass the frame's check
abbrev pub checked : ℕ → List Term → Result Content RefusalCase
checked s ts = map_ok (λ _. content s ts) (check ts)

abbrev pub frame_of : List ℕ → Result Content RefusalCase
frame_of [] = Err (refused 14 0)
frame_of (s ∷ ns) = checked s (pairs ns)

-- the fields behind the letter: a sum and pairs, so their number is odd, and each a number
abbrev pub read_fields : List Field → Result Content RefusalCase
read_fields fs = cond (length fs % 2 == 1) (and_then (numbers fs) frame_of) (Err (refused 14 0))

-- a line's kind, and the fields behind its letter
abbrev pub SplitKind : List ℕ → Option (LineKind × Fields) → Type 0
SplitKind line r = MatchOption r (line_kind line ≡ None) (λ p. (line_kind line ≡ Some p.0) × (to_come p.1 ≡ drop 1 (fields_of line)))

-- the fields behind the letter of a line, which is to be a frame's
abbrev pub frame_only : Option LineKind → List Field → Result Content RefusalCase
frame_only None fs = Err (refused 13 0)
frame_only (Some Open) fs = Err (refused 13 0)
frame_only (Some Frame) fs = read_fields fs

abbrev pub read : List ℕ → Result Content RefusalCase
read line = frame_only (line_kind line) (drop 1 (fields_of line))

-- r is what the line says: a frame exactly where the bytes are that frame's line
pub record ReadsFrame (line : List ℕ) (r : Result Content RefusalCase) : Type 0 where
  pub only : (s : ℕ) (ts : List Term) → r ≡ Ok (content s ts) → IsFrame s ts × (line ≡ line_of s ts)
  pub each : (s : ℕ) (ts : List Term) → IsFrame s ts → line ≡ line_of s ts → r ≡ Ok (content s ts)

-- so many terms from fields: all their numbers, of which the first sixteen terms are kept
abbrev pub ReadsTerms : List Field → ℕ → Result (ArrayVec Term) RefusalCase → Type 0
ReadsTerms fs count r = MatchResult r (λ kept. (all : List Term) × (numbers fs ≡ Ok (flat all)) × (length all ≡ count) × (kept.items ≡ take 16 all)) (λ e. numbers fs ≡ Err e)
