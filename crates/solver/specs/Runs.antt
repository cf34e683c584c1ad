-- The run of a settle, one question at a time. Assumes nothing.
use Rattle.std.specs.Prelude.{◌≡◌, ℕ, zero, suc, ◌+◌, List, [], ◌∷◌, length, map, Some, None, Ok}
use Rattle.std.specs.Prelude.{Err, Option, Result}
use Rattle.std.specs.List.{range_with_len}
use Rattle.field.specs.Operations.{Operations}
use Rattle.field.specs.Slices.{Filled}
use Rattle.rows.specs.Systems.{System, sum_at}
use Rattle.rows.specs.Values.{choice, entry}
use Rattle.algebra.specs.Pivots.{Pivots, no_pivots, solution, multipliers, grow}
use Rattle.algebra.specs.Profiles.{pivot_rows}
use Rattle.solver.specs.declared.findings.Findings.{Findings}
use Rattle.solver.specs.Outcomes.{Case, solved_case, contradiction_case, failed_case, IsSolved}
use Rattle.solver.specs.Outcomes.{IsContradiction, IsFailed}
use Rattle.solver.specs.Questions.{Asked, about_rows, about_columns, question_codes, side, verified}
use Rattle.solver.specs.Scouts.{ScoutMeaning}

-- a question that was put, and the answer to it
pub record Exchange : Type 0 where
  pub question : Asked
  pub answer : Option ℕ

-- a run between two questions: its pivots, the row whose column question is next, if it is not a
-- row question, and what was asked, the newest first
pub record State : Type 0 where
  pub pivots : Pivots
  pub row : Option ℕ
  pub exchanges : List Exchange

abbrev pub start : State
start = record { pivots = no_pivots; row = None; exchanges = [] }

-- f 0, .. f (n − 1)
abbrev pub list_of : ℕ → (ℕ → ℕ) → List ℕ
list_of n f = map f (range_with_len 0 n)

-- x, for the row question
abbrev pub x_of : Operations → System → Pivots → List ℕ
x_of K S P = list_of S.width (solution K (sum_at S) P)

-- u, for the column question of a row
abbrev pub u_of : Operations → System → Pivots → ℕ → List ℕ
u_of K S P i = list_of (length S.rows) (multipliers K (entry K S) P i)

-- the next question
abbrev pub question_of : Operations → System → Pivots → Option ℕ → Asked
question_of K S P None = about_rows (x_of K S P)
question_of K S P (Some i) = about_columns (u_of K S P i)

abbrev pub next_question : Operations → System → State → Asked
next_question K S st = question_of K S st.pivots st.row

-- one exchange more
abbrev pub exchanged : Operations → System → State → Option ℕ → List Exchange
exchanged K S st a = record { question = next_question K S st; answer = a } ∷ st.exchanges

-- after a true answer that names a place: a row's column question comes next, and a column makes a
-- pivot more
abbrev pub named : Operations → System → Pivots → Option ℕ → List Exchange → ℕ → State
named K S P None exchanges i = record { pivots = P; row = Some i; exchanges = exchanges }
named K S P (Some i) exchanges j =
    record { pivots = grow K (entry K S) P i j; row = None; exchanges = exchanges }

-- after a true answer none
abbrev pub ending : Pivots → Option ℕ → List Exchange → Case
ending P None exchanges = solved_case P.count (length exchanges)
ending P (Some i) exchanges = contradiction_case P.count (length exchanges)

-- how it goes on: another question, or the end
pub data Progress : Type 0 where
  question : State → Progress
  end : Case → Progress

-- by the last answer, verified; the fault of a false one ends the run
abbrev pub continued : Operations → System → Pivots → Option ℕ → Asked → List Exchange →
    Result (Option ℕ) Case → Progress
continued K S P row q exchanges (Err fault) = end (failed_case (length exchanges) (side q) fault)
continued K S P row q exchanges (Ok None) = end (ending P row exchanges)
continued K S P row q exchanges (Ok (Some i)) = question (named K S P row exchanges i)

-- one question with its answer
abbrev pub step : Operations → System → State → Option ℕ → Progress
step K S st a =
    let q = next_question K S st in
    continued K S st.pivots st.row q (exchanged K S st a) (verified K S q a)

-- the pivot columns as a list
abbrev pub pivot_columns : Pivots → List ℕ
pivot_columns P = list_of P.count P.column

-- a run that has ended: how, its pivot rows and pivot columns in the order found, what was asked,
-- the newest first, and the scout's state
pub record Ran (X : Type 0) : Type 0 where
  pub outcome : Case
  pub pivot_rows : List ℕ
  pub pivot_columns : List ℕ
  pub exchanges : List Exchange
  pub scout : X

-- a run with so many questions left, which a scout answers
unfoldable pub run : {X : Type 0} → Operations → System → ScoutMeaning X → ℕ → State → X →
    Option (Ran X)
run K S M zero st scout = None
run K S M (suc left) st scout =
    let q = next_question K S st in
    let a = M.answer scout S q in
    elim (step K S st a) [
      | question later ↦ run K S M left later (M.after scout S q)
      | end outcome ↦
          Some (record {
            outcome = outcome;
            pivot_rows = pivot_rows st.pivots;
            pivot_columns = pivot_columns st.pivots;
            exchanges = exchanged K S st a;
            scout = M.after scout S q;
          })
    ]

-- no run puts more questions
abbrev pub most_questions : System → ℕ
most_questions S = S.width + S.width + 2

-- the whole run
abbrev pub whole_run : {X : Type 0} → Operations → System → ScoutMeaning X → X → Option (Ran X)
whole_run K S M scout = run K S M (most_questions S) start scout

-- the codes of the last question
abbrev pub last_codes : List Exchange → List ℕ
last_codes [] = []
last_codes (e ∷ es) = question_codes e.question

-- the codes of the last question stand at the head of a list, whose rest is as it was
abbrev pub WritesLast : List Exchange → (list list' : List ℕ) → Type 0
WritesLast exchanges list list' =
    Filled (length (last_codes exchanges)) (choice (last_codes exchanges)) list list'

-- what a run writes: x when it is solved, u on a contradiction, and nothing else
pub record Writes (outcome : Case) (exchanges : List Exchange) (f f' : Findings) : Type 0 where
  pub minutes : IsSolved outcome → WritesLast exchanges f.minutes f'.minutes × (f'.blame ≡ f.blame)
  pub blame : IsContradiction outcome →
      (f'.minutes ≡ f.minutes) × WritesLast exchanges f.blame f'.blame
  pub nothing : IsFailed outcome → f' ≡ f
