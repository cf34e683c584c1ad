-- Which minutes are noted, with which codes, and what rows mean under them. Assumes nothing.
use Rattle.std.specs.Prelude.{◌≡◌, ℕ, ◌+◌, ◌%◌, ◌<◌, ◌≤◌, List, length, map, Some, None, Ok, Err}
use Rattle.std.specs.Prelude.{Option, Result, ◌↔◌, nat_le, replicate, slice_index_or, slice_set}
use Rattle.std.specs.List.{filter}
use Rattle.std.specs.Option.{IsSome, unwrap_or, is_some, is_none}
use Rattle.field.specs.Operations.{Operations}
use Rattle.frame.specs.declared.terms.Term.{Term}
use Rattle.frame.specs.Refusals.{RefusalCase}
use Rattle.frame.specs.Orders.{Order, no_rule, rule, AtStart, refuse, when}
use Rattle.rows.specs.declared.sizes.TheConstants.{MOST_MINUTES}
use Rattle.rows.specs.Systems.{Row, System}
use Rattle.rows.specs.Values.{SatisfiesAll, row_value}
use Rattle.rows.specs.Columns.{DifferentColumns, Determine}

-- the code that is noted for a minute, if there is one
abbrev pub noted_code : List (Option ℕ) → ℕ → Option ℕ
noted_code codes c = slice_index_or codes c None

-- nothing is noted
abbrev pub no_codes : List (Option ℕ)
no_codes = replicate MOST_MINUTES None

-- how many minutes are noted
abbrev pub noted_count : List (Option ℕ) → ℕ
noted_count codes = length (filter is_some codes)

-- the noted codes, put into a choice of minutes
abbrev pub put_in : List (Option ℕ) → (ℕ → ℕ) → ℕ → ℕ
put_in codes x c = unwrap_or (noted_code codes c) (x c)

-- the noted codes alone, 0 elsewhere
abbrev pub noted_alone : List (Option ℕ) → ℕ → ℕ
noted_alone codes = put_in codes (λ c. 0)

-- the terms at minutes that are not noted
abbrev pub open_terms : List (Option ℕ) → List Term → List Term
open_terms codes ts = filter (λ t. is_none (noted_code codes t.minute)) ts

-- a row under the notes: the sum less the weights times the noted codes, as a code, and the terms
-- at the other minutes
abbrev pub row_under : Operations → List (Option ℕ) → Row → Row
row_under K codes r =
    record { sum = row_value K r (noted_alone codes); terms = open_terms codes r.terms }

abbrev pub system_under : Operations → List (Option ℕ) → System → System
system_under K codes S = record { width = S.width; rows = map (row_under K codes) S.rows }

-- the answer to a note, for m minutes
abbrev pub note_answer : Operations → ℕ → List (Option ℕ) → ℕ → ℕ → Result (Unit {0}) RefusalCase
note_answer K m codes c code =
    refuse 2 (when (nat_le m c))
    (refuse 3 (when (nat_le K.q code))
    (refuse 4 (when (is_some (noted_code codes c))) (Ok tt)))

-- the order in which a note is refused: 2 for a minute not below the width, then 3 for a code not
-- below the field's size, then 4 for a minute that is noted
abbrev pub note_order : Operations → ℕ → List (Option ℕ) → ℕ → ℕ → Order
note_order K m codes c code =
    rule 2 (AtStart (m ≤ c))
    (rule 3 (AtStart (K.q ≤ code)) (rule 4 (AtStart (IsSome (noted_code codes c))) no_rule))

-- what a note leaves, by its answer
abbrev pub after_note :
    {E : Type 0} → Result (Unit {0}) E → List (Option ℕ) → ℕ → ℕ → List (Option ℕ)
after_note (Ok u) codes c code = slice_set codes c (Some code)
after_note (Err e) codes c code = codes

-- notes for a width: there is room for every minute, and what is noted are codes, at minutes below
-- the width
pub record NotesFit (K : Operations) (m : ℕ) (codes : List (Option ℕ)) : Type 0 where
  pub long : length codes ≡ MOST_MINUTES
  pub minute : (c code : ℕ) → noted_code codes c ≡ Some code → c < m
  pub code : (c code : ℕ) → noted_code codes c ≡ Some code → code < K.q

-- a choice of minutes satisfies the rows under the notes just where, with the noted codes put in,
-- it satisfies the rows
abbrev pub SatisfiedUnder : Operations → List (Option ℕ) → System → (ℕ → ℕ) → Type 0
SatisfiedUnder K codes S x =
    SatisfiesAll K (system_under K codes S) x ↔ SatisfiesAll K S (put_in codes x)

-- a choice of minutes, read as codes, has the noted codes at their minutes
abbrev pub HasNotes : Operations → List (Option ℕ) → (ℕ → ℕ) → Type 0
HasNotes K codes y = (c code : ℕ) → noted_code codes c ≡ Some code → y c % K.q ≡ code

-- each choice that satisfies the rows and has the noted codes is, read as codes, x with them put in
abbrev pub OnlyChoice : Operations → List (Option ℕ) → System → (ℕ → ℕ) → Type 0
OnlyChoice K codes S x =
    (y : ℕ → ℕ) → SatisfiesAll K S y → HasNotes K codes y →
    (c : ℕ) → c < S.width → y c % K.q ≡ put_in codes x c

-- columns that determine x under the notes leave no other choice, once they and the notes are as
-- many as the minutes
abbrev pub NotesComplete : Operations → List (Option ℕ) → System → Type 0
NotesComplete K codes S =
    (columns : List ℕ) (x : ℕ → ℕ) →
    DifferentColumns K (system_under K codes S) columns →
    length columns + noted_count codes ≡ S.width →
    Determine K (system_under K codes S) columns x →
    OnlyChoice K codes S x
