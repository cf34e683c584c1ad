-- Questions about rows, their values, and which answers are false. Assumes nothing.
use Rattle.std.specs.Prelude.{◌≡◌, ◌≢◌, ℕ, ◌<◌, ◌≤◌, ◌⊎◌, ◌==◌, not, cond, List, length, Some, None}
use Rattle.std.specs.Prelude.{Ok, Err, Option, Result, MatchResult, nat_lt}
use Rattle.field.specs.Operations.{Operations, first_from}
use Rattle.rows.specs.Systems.{System, row_at}
use Rattle.rows.specs.Values.{choice, row_value, column_value}
use Rattle.solver.specs.declared.questions.Question.{Question}
use Rattle.solver.specs.declared.questions.Question.TheVariants.{Row, Column}
use Rattle.solver.specs.declared.questions.Side.{Side}
use Rattle.solver.specs.declared.questions.Side.TheVariants as sides
use Rattle.solver.specs.declared.faults.Fault.{Fault}
use Rattle.solver.specs.declared.faults.Fault.TheVariants.{Missed, Zero, NoPlace}
use Rattle.solver.specs.Outcomes.{Case, fault_case}
use Rattle.solver.specs.Slices.{Codes}

-- what is asked: the row question for x is about the places of b − Ax, a row each, and the column
-- question for u about those of uA, a minute each
pub data Asked : Type 0 where
  about_rows : List ℕ → Asked
  about_columns : List ℕ → Asked

abbrev pub asked : Question → Asked
asked (Row x) = about_rows x.now
asked (Column u) = about_columns u.now

abbrev pub side : Asked → Side
side (about_rows x) = sides.Row
side (about_columns u) = sides.Column

-- the codes that a question hands over
abbrev pub question_codes : Asked → List ℕ
question_codes (about_rows x) = x
question_codes (about_columns u) = u

-- a question hands over codes: one for each minute where it is about rows, and one for each row
-- where it is about columns
abbrev pub HandsCodes : Operations → System → Asked → Type 0
HandsCodes K S (about_rows x) = (length x ≡ S.width) × Codes K.q x
HandsCodes K S (about_columns u) = (length u ≡ length S.rows) × Codes K.q u

abbrev pub place_count : System → Asked → ℕ
place_count S (about_rows x) = length S.rows
place_count S (about_columns u) = S.width

-- the value at a place
abbrev pub value_at : Operations → System → Asked → ℕ → ℕ
value_at K S (about_rows x) i = row_value K (row_at S i) (choice x)
value_at K S (about_columns u) j = column_value K S (choice u) j

-- the same, none where there is no such place
abbrev pub value_of : Operations → System → Asked → ℕ → Option ℕ
value_of K S q i = cond (nat_lt i (place_count S q)) (Some (value_at K S q i)) None

-- the first place whose value is not 0
abbrev pub first_place : Operations → System → Asked → Option ℕ
first_place K S q = first_from (λ i. not (value_at K S q i == 0)) (place_count S q) 0

-- an answer is false when its place does not exist or has value 0, or when it is none though some
-- value is not 0
abbrev pub FalseAnswer : Operations → System → Asked → Option ℕ → Type 0
FalseAnswer K S q (Some i) = (place_count S q ≤ i) ⊎ (value_at K S q i ≡ 0)
FalseAnswer K S q None = (i : ℕ) × (i < place_count S q) × (value_at K S q i ≢ 0)

-- else it is true
abbrev pub TrueAnswer : Operations → System → Asked → Option ℕ → Type 0
TrueAnswer K S q (Some i) = (i < place_count S q) × (value_at K S q i ≢ 0)
TrueAnswer K S q None = (i : ℕ) → i < place_count S q → value_at K S q i ≡ 0

-- what is false in an answer: none was given though this place, the first such, is not 0; its value
-- is 0; it does not exist
abbrev pub HasFault : Operations → System → Asked → Option ℕ → Fault → Type 0
HasFault K S q a (Missed i) = (a ≡ None) × (first_place K S q ≡ Some i)
HasFault K S q a (Zero i) = (a ≡ Some i) × (i < place_count S q) × (value_at K S q i ≡ 0)
HasFault K S q a (NoPlace i) = (a ≡ Some i) × (place_count S q ≤ i)

-- none as an answer verified, by the first place whose value is not 0
abbrev pub none_verified : Option ℕ → Result (Option ℕ) Case
none_verified None = Ok None
none_verified (Some i) = Err (fault_case (Missed i))

-- a place as an answer verified, by the value there
abbrev pub place_verified : ℕ → Option ℕ → Result (Option ℕ) Case
place_verified i None = Err (fault_case (NoPlace i))
place_verified i (Some v) = cond (v == 0) (Err (fault_case (Zero i))) (Ok (Some i))

-- an answer verified: itself where it is true, else its fault
abbrev pub verified : Operations → System → Asked → Option ℕ → Result (Option ℕ) Case
verified K S q None = none_verified (first_place K S q)
verified K S q (Some i) = place_verified i (value_of K S q i)

-- a case tells what is false in an answer
abbrev pub TellsFault : Operations → System → Asked → Option ℕ → Case → Type 0
TellsFault K S q a c = (fault : Fault) × HasFault K S q a fault × (c ≡ fault_case fault)

-- to verify lets through just the true answers, as they are, and tells what is false in the others
abbrev pub Verifies : Operations → System → Asked → Option ℕ → Result (Option ℕ) Case → Type 0
Verifies K S q a r =
    MatchResult r
    (λ b. (b ≡ a) × TrueAnswer K S q a)
    (λ c. FalseAnswer K S q a × TellsFault K S q a c)
