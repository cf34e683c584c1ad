-- The line that opens an hour. Assumes nothing.
use Rattle.std.specs.Prelude.{ℕ, cond, List, [], ◌∷◌, length, drop, Some, None, Err, decimal, Option, Result, ◌==◌}
use Rattle.std.specs.Option.{option_and_then, ok_or}
use Rattle.frame.specs.Refusals.{RefusalCase, refused}
use Rattle.lines.specs.declared.openings.FieldName.{FieldName}
use Rattle.lines.specs.declared.openings.FieldName.TheVariants.{Prime, Octets}
use Rattle.lines.specs.declared.openings.Opening.{Opening}
use Rattle.lines.specs.Fields.{join, Field}
use Rattle.lines.specs.Tokens.{letter_of}
use Rattle.lines.specs.Reading.{map_ok, and_then, first_number}

-- the letter of a field's name: P or B
abbrev pub name_letter : FieldName → ℕ
name_letter Prime = 80
name_letter Octets = 66

-- the name with this letter
abbrev pub name_of : ℕ → Option FieldName
name_of letter = cond (letter == 80) (Some Prime) (cond (letter == 66) (Some Octets) None)

-- the name of the first of some fields, or 15 with the field's offset
abbrev pub first_name : List Field → Result FieldName RefusalCase
first_name [] = Err (refused 14 0)
first_name (f ∷ fs) = ok_or (option_and_then name_of (letter_of f.text)) (refused 15 f.at)

abbrev pub opening : FieldName → ℕ → Opening
opening name width = record { field = name; width = width }

-- the fields behind the letter: a name and a number
abbrev pub read_opening : List Field → Result Opening RefusalCase
read_opening fs = cond (length fs == 2) (and_then (first_name fs) (λ name. map_ok (opening name) (first_number (drop 1 fs)))) (Err (refused 14 0))

-- O, the letter of the field's name, and the width
abbrev pub opening_line : Opening → List ℕ
opening_line o = join 44 ((79 ∷ []) ∷ (name_letter o.field ∷ []) ∷ decimal o.width ∷ [])
