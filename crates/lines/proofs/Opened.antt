-- Each opening has one line, and reading takes that line, and no other, to that opening. Assumes nothing.
use Rattle.std.proofs.Common.{◌≡◌, ℕ, ◌<◌, ◌≤◌, List, [], ◌∷◌, length, drop, Some, None, Ok, Err, decimal, Option, Result, sym, refl, ap, ◌∙◌, arith, length-append}
use Rattle.std.specs.Option.{option_and_then, ok_or}
use Rattle.std.proofs.lemmas.Fmt.{length-decimal-le}
use Rattle.std.proofs.lemmas.Bool.{eqb-true}
use Rattle.std.proofs.lemmas.Option.{none-some}
use Rattle.frame.specs.Refusals.{RefusalCase}
use Rattle.frame.proofs.Apart.{err_ok}
use Rattle.lines.specs.declared.kinds.LineKind.{LineKind}
use Rattle.lines.specs.declared.kinds.LineKind.TheVariants as kinds
use Rattle.lines.specs.declared.openings.FieldName.{FieldName}
use Rattle.lines.specs.declared.openings.FieldName.TheVariants.{Prime, Octets}
use Rattle.lines.specs.declared.openings.Opening.{Opening}
use Rattle.lines.specs.Fields.{Whole, AllWhole, join, Field, placed, fields_of}
use Rattle.lines.specs.Frames.{line_of}
use Rattle.lines.specs.Kinds.{line_kind}
use Rattle.lines.specs.Openings.{name_letter, name_of, first_name, opening, read_opening, opening_line}
use Rattle.lines.specs.Reading.{Content, map_ok, and_then, first_number, read_fields, frame_only}
use Rattle.lines.specs.Entries.{Said, opens, carries, by_kind, read_entry, ReadsEntry}
use Rattle.lines.specs.Tokens.{letter_of}
use Rattle.lines.proofs.Begins.{chosen, field_is, begins, one_whole, written_kind, written_rest}
use Rattle.lines.proofs.Digits.{number_reads, number_written, decimal_whole}
use Rattle.lines.proofs.Exact.{opened, line_only, line_each}

-- what a reading that gives an opening has passed
passed : {X E : Type 0} (o : Option X) (e : E) (x : X) → ok_or o e ≡ Ok x → o ≡ Some x
passed None e x h = absurd (err_ok _ _ h)
passed (Some y) e x h = cc

both_passed : (r : Result FieldName RefusalCase) (n : Result ℕ RefusalCase) (o : Opening) → and_then r (λ name. map_ok (opening name) n) ≡ Ok o → (r ≡ Ok o.field) × (n ≡ Ok o.width)
both_passed (Err e) n o h = absurd (err_ok _ _ h)
both_passed (Ok name) (Err e) o h = absurd (err_ok _ _ h)
both_passed (Ok name) (Ok w) o h = let e : opening name w ≡ o = cc in (ap (λ p. Ok p.field) e, ap (λ p. Ok p.width) e)

name_back : (name : FieldName) (l : ℕ) → name_of l ≡ Some name → l ≡ name_letter name
name_back name l = chosen name_letter Prime name l _ (chosen name_letter Octets name l _ (λ h. absurd (none-some name h)))

-- the parts behind the letter, and back
fields_only : (ps : List (List ℕ)) (at : ℕ) (o : Opening) → read_opening (placed at ps) ≡ Ok o → (o.width < 65536) × (ps ≡ (name_letter o.field ∷ []) ∷ decimal o.width ∷ [])
fields_only [] at o h = absurd (err_ok _ _ h)
fields_only (p ∷ []) at o h = absurd (err_ok _ _ h)
fields_only (p ∷ q ∷ r ∷ ps) at o h =
    let two = eqb-true (length (placed at (p ∷ q ∷ r ∷ ps))) 2 (opened _ _ _ o h).0 in absurd (omega arith)
fields_only (p ∷ q ∷ []) at o h =
    let got = both_passed (first_name (placed at (p ∷ q ∷ []))) (first_number (drop 1 (placed at (p ∷ q ∷ [])))) o h in
    let name = field_is name_letter name_of name_back p o.field (passed _ _ _ got.0) in
    let width = number_reads q o.width (passed _ _ _ got.1) in
    (width.0, (λ i. name i ∷ width.1 i ∷ []))

letter_name : (name : FieldName) → option_and_then name_of (letter_of (name_letter name ∷ [])) ≡ Some name
letter_name Prime = refl
letter_name Octets = refl

name_whole : (name : FieldName) → Whole 44 (name_letter name ∷ [])
name_whole Prime = one_whole 80 (λ e. omega arith)
name_whole Octets = one_whole 66 (λ e. omega arith)

-- the whole line, and back
module _ (o : Opening) where
  abbrev parts : List (List ℕ)
  parts = (name_letter o.field ∷ []) ∷ decimal o.width ∷ []

  fields_each : (at : ℕ) → o.width < 65536 → read_opening (placed at parts) ≡ Ok o
  fields_each at word = rw (letter_name o.field, number_written (decimal o.width) o.width word refl) refl

  whole : o.width < 65536 → AllWhole 44 parts
  whole word = (name_whole o.field, (decimal_whole o.width word, tt))

  short : o.width < 65536 → length (opening_line o) ≤ 256
  short word = let width = length-decimal-le 5 o.width (omega arith) (omega arith) (omega arith) in simp length-append (omega arith)

  opening_each : o.width < 65536 → read_entry (opening_line o) ≡ Ok (opens o)
  opening_each word =
      ap (λ k. by_kind k (drop 1 (fields_of (opening_line o)))) (written_kind kinds.Open parts (whole word) (short word))
      ∙ ap (λ fs. map_ok opens (read_opening fs)) (written_rest kinds.Open parts (whole word))
      ∙ ap (map_ok opens) (fields_each 2 word)

opens_passed : (r : Result Opening RefusalCase) (o : Opening) → map_ok opens r ≡ Ok (opens o) → r ≡ Ok o
opens_passed (Ok p) o h = cc
opens_passed (Err e) o h = absurd (err_ok _ _ h)

opens_read : (k : Option LineKind) (fs : List Field) (o : Opening) → by_kind k fs ≡ Ok (opens o) → (k ≡ Some kinds.Open) × (read_opening fs ≡ Ok o)
opens_read None fs o h = absurd (err_ok _ _ h)
opens_read (Some kinds.Open) fs o h = (refl, opens_passed (read_opening fs) o h)
opens_read (Some kinds.Frame) fs o h = absurd (no_frame (read_fields fs) h) where
  no_frame : (r : Result Content RefusalCase) → map_ok carries r ≡ Ok (opens o) → ⊥
  no_frame (Ok c) h = cc
  no_frame (Err e) h = err_ok _ _ h

opening_only : (line : List ℕ) (o : Opening) → read_entry line ≡ Ok (opens o) → (o.width < 65536) × (line ≡ opening_line o)
opening_only line o h =
    let known = opens_read (line_kind line) _ o h in
    let b = begins line kinds.Open known.0 in
    let got = fields_only b.parts 2 o (ap read_opening (sym b.rest) ∙ known.1) in
    (got.0, b.is ∙ ap (λ ps. join 44 ((79 ∷ []) ∷ ps)) got.1)

-- a line carries a frame where it is read as one
carries_passed : (r : Result Content RefusalCase) (c : Content) → map_ok carries r ≡ Ok (carries c) → r ≡ Ok c
carries_passed (Ok d) c h = cc
carries_passed (Err e) c h = absurd (err_ok _ _ h)

carries_read : (k : Option LineKind) (fs : List Field) (c : Content) → by_kind k fs ≡ Ok (carries c) → frame_only k fs ≡ Ok c
carries_read None fs c h = absurd (err_ok _ _ h)
carries_read (Some kinds.Open) fs c h = absurd (no_opening (read_opening fs) h) where
  no_opening : (r : Result Opening RefusalCase) → map_ok opens r ≡ Ok (carries c) → ⊥
  no_opening (Ok o) h = cc
  no_opening (Err e) h = err_ok _ _ h
carries_read (Some kinds.Frame) fs c h = carries_passed (read_fields fs) c h

carries_back : (k : Option LineKind) (fs : List Field) (c : Content) → frame_only k fs ≡ Ok c → by_kind k fs ≡ Ok (carries c)
carries_back None fs c h = absurd (err_ok _ _ h)
carries_back (Some kinds.Open) fs c h = absurd (err_ok _ _ h)
carries_back (Some kinds.Frame) fs c h = ap (map_ok carries) h

-- a line is of the kind that says what it says
abbrev pub kind_said : Said → LineKind
kind_said (opens o) = kinds.Open
kind_said (carries c) = kinds.Frame

opens_only : {E : Type 0} (r : Result Opening E) (entry : Said) → map_ok opens r ≡ Ok entry → kinds.Open ≡ kind_said entry
opens_only (Ok o) entry h = let e : opens o ≡ entry = cc in ap kind_said e
opens_only (Err e) entry h = absurd (err_ok _ _ h)

carries_only : {E : Type 0} (r : Result Content E) (entry : Said) → map_ok carries r ≡ Ok entry → kinds.Frame ≡ kind_said entry
carries_only (Ok c) entry h = let e : carries c ≡ entry = cc in ap kind_said e
carries_only (Err e) entry h = absurd (err_ok _ _ h)

said_by_kind : (k : Option LineKind) (fs : List Field) (entry : Said) → by_kind k fs ≡ Ok entry → k ≡ Some (kind_said entry)
said_by_kind None fs entry h = absurd (err_ok _ _ h)
said_by_kind (Some kinds.Open) fs entry h = ap Some (opens_only (read_opening fs) entry h)
said_by_kind (Some kinds.Frame) fs entry h = ap Some (carries_only (read_fields fs) entry h)

pub kind_read : (line : List ℕ) (entry : Said) → read_entry line ≡ Ok entry → line_kind line ≡ Some (kind_said entry)
kind_read line entry = said_by_kind (line_kind line) _ entry

pub reads_entry : (line : List ℕ) (r : Result Said RefusalCase) → r ≡ read_entry line → ReadsEntry line r
reads_entry line r is =
    record {
      only_opening = λ o h. opening_only line o (sym is ∙ h);
      each_opening = λ o word e. is ∙ ap read_entry e ∙ opening_each o word;
      only_frame = λ s ts h. line_only line s ts (carries_read (line_kind line) _ _ (sym is ∙ h));
      each_frame = λ s ts f e. is ∙ ap read_entry e ∙ carries_back (line_kind (line_of s ts)) _ _ (line_each s ts f);
    }
