-- The answers to lines. Assumes nothing.
use Rattle.std.specs.Prelude.{◌≡◌, ℕ, cond, List, [], ◌∷◌, ◌++◌, Some, None, Ok, Err, codes, decimal, Option, Result, ◌==◌}
use Rattle.frame.specs.declared.terms.Term.{Term}
use Rattle.frame.specs.declared.refusals.Layer.{Layer}
use Rattle.frame.specs.declared.refusals.Layer.TheVariants.{Line, Frame, Block}
use Rattle.frame.specs.Refusals.{RefusalCase, layer_at}
use Rattle.lines.specs.declared.kinds.LineKind.{LineKind}
use Rattle.lines.specs.declared.kinds.LineKind.TheVariants as kinds
use Rattle.lines.specs.Fields.{join}
use Rattle.lines.specs.Frames.{line_of, IsFrame}
use Rattle.lines.specs.Kinds.{shown_letter}
use Rattle.lines.specs.Reading.{Content, read}

abbrev pub layer_name : Layer → List ℕ
layer_name Line = codes "line"
layer_name Frame = codes "frame"
layer_name Block = codes "block"

-- letter, refused, layer, number, place
abbrev pub refused_line : Option LineKind → RefusalCase → List ℕ
refused_line kind r = join 44 ((shown_letter kind ∷ []) ∷ codes "refused" ∷ layer_name (layer_at r.number) ∷ decimal r.number ∷ decimal r.place ∷ [])

-- letter, ok, number
abbrev pub accepted_line : Option LineKind → ℕ → List ℕ
accepted_line kind n = join 44 ((shown_letter kind ∷ []) ∷ codes "ok" ∷ decimal n ∷ [])

-- the answer to a line of this kind: accepted with a number, or refused
abbrev pub answer_line : Option LineKind → Result ℕ RefusalCase → List ℕ
answer_line kind (Ok n) = accepted_line kind n
answer_line kind (Err r) = refused_line kind r

-- the kind of a line that a log check refuses: a frame's, or unknown, which is 13
abbrev pub kind_refused : RefusalCase → Option LineKind
kind_refused r = cond (r.number == 13) None (Some kinds.Frame)

-- a frame's own line, or the refusal
abbrev pub answer_of : Result Content RefusalCase → List ℕ
answer_of (Ok c) = line_of c.sum c.terms
answer_of (Err r) = refused_line (kind_refused r) r

-- a log check's answer to a line, with the byte that ends it
abbrev pub answer_to : List ℕ → List ℕ
answer_to line = answer_of (read line) ++ 10 ∷ []

-- a frame's line comes out as it went in
abbrev pub Echoes : List ℕ → Type 0
Echoes line = (s : ℕ) (ts : List Term) → IsFrame s ts → line ≡ line_of s ts → answer_to line ≡ line ++ 10 ∷ []
