-- What every run of a settle keeps, in words of rows, minutes and answers. Assumes nothing.
use Rattle.std.specs.Prelude.{◌≡◌, ◌≢◌, ℕ, suc, ◌+◌, ◌%◌, ◌<◌, ◌≤◌, ◌↔◌, ◌⊎◌, List, [], ◌∷◌, length}
use Rattle.std.specs.Prelude.{drop, ⊤, Some, Ok, Result, nat_lt}
use Rattle.std.specs.List.{All, Contains}
use Rattle.field.specs.Operations.{Operations}
use Rattle.field.specs.Sums.{Σ}
use Rattle.frame.specs.Refusals.{RefusalCase}
use Rattle.frame.specs.Orders.{refuse, when}
use Rattle.rows.specs.Systems.{System, sum_at}
use Rattle.rows.specs.Values.{choice, entry, column_value, SatisfiesAll}
use Rattle.rows.specs.Columns.{DifferentColumns, Determine}
use Rattle.algebra.specs.Profiles.{IndependentRows, rank}
use Rattle.solver.specs.declared.faults.Fault.{Fault}
use Rattle.solver.specs.declared.findings.Findings.{Findings}
use Rattle.solver.specs.declared.outcomes.Outcome.{Outcome}
use Rattle.solver.specs.declared.spaces.TheConstants.{WORK_WORDS}
use Rattle.solver.specs.Questions.{Asked, side, HandsCodes, HasFault, FalseAnswer}
use Rattle.solver.specs.Outcomes.{Case, fault_case, side_case, solved_case, contradiction_case}
use Rattle.solver.specs.Outcomes.{failed_case, outcome_case, IsSolved, IsContradiction, IsFailed}
use Rattle.solver.specs.Scouts.{ScoutMeaning}
use Rattle.solver.specs.Runs.{Exchange, Ran, Writes, whole_run}

-- asked this, the newest first, a scout gave these answers, and came from one state to another
abbrev pub Gave : {X : Type 0} → System → ScoutMeaning X → X → List Exchange → X → Type 0
Gave S M from [] to = to ≡ from
Gave {X = X} S M from (e ∷ es) to =
    (before : X) × Gave S M from es before
    × (e.answer ≡ M.answer before S e.question) × (to ≡ M.after before S e.question)

-- an answer among them is false
abbrev pub SomeFalse : Operations → System → List Exchange → Type 0
SomeFalse K S [] = ⊥
SomeFalse K S (e ∷ es) = FalseAnswer K S e.question e.answer ⊎ SomeFalse K S es

-- questions alternate: from 1, the odd ones are of rows and the even ones of columns
abbrev pub Alternate : List Exchange → Type 0
Alternate [] = ⊤
Alternate (e ∷ es) = ((side_case (side e.question)).number ≡ suc (length es % 2)) × Alternate es

-- a failed case tells of the last question: its number from 1, its side, and what is false in its
-- answer
abbrev pub FailureTells : Operations → System → List Exchange → Case → Type 0
FailureTells K S [] o = ⊥
FailureTells K S (e ∷ es) o =
    (fault : Fault) × HasFault K S e.question e.answer fault
    × (o ≡ failed_case (suc (length es)) (side e.question) (fault_case fault))

-- u blames rows whose combination is impossible: times u the weights add up to 0 at every minute,
-- and the sums do not
abbrev pub Impossible : Operations → System → (ℕ → ℕ) → Type 0
Impossible K S u =
    ((c : ℕ) → c < S.width → column_value K S u c ≡ 0)
    × (Σ K (length S.rows) (λ i. K.times (u i) (sum_at S i)) ≢ 0)

-- a run that is solved with the minutes x
pub record SolvedLaws {X : Type 0} (K : Operations) (S : System)
    (r : Ran X) (x : ℕ → ℕ) : Type 0 where
  -- the minutes satisfy every row; they are codes, and 0 outside the pivot columns
  pub satisfied : SatisfiesAll K S x
  pub codes : (c : ℕ) → c < S.width → x c < K.q
  pub elsewhere : (c : ℕ) → c < S.width → ¬ Contains r.pivot_columns c → x c ≡ 0
  -- no others satisfy every row and agree with them outside the pivot columns; none do where there
  -- are as many pivots as minutes
  pub determined : Determine K S r.pivot_columns x
  pub only : length r.pivot_rows ≡ S.width →
      (y : ℕ → ℕ) → SatisfiesAll K S y → (c : ℕ) → c < S.width → y c % K.q ≡ x c
  -- it tells its pivots and its questions, one more than two for each pivot
  pub told : r.outcome ≡ solved_case (length r.pivot_rows) (length r.exchanges)
  pub questions : length r.exchanges ≡ length r.pivot_rows + length r.pivot_rows + 1

-- a run that ends in a contradiction with the blame u
pub record ContradictionLaws {X : Type 0} (K : Operations) (S : System)
    (r : Ran X) (u : ℕ → ℕ) : Type 0 where
  -- the rows blamed are impossible together, so no minutes satisfy all rows; the blame is codes
  pub blamed : Impossible K S u
  pub refuted : (y : ℕ → ℕ) → ¬ SatisfiesAll K S y
  pub codes : (i : ℕ) → i < length S.rows → u i < K.q
  -- it tells its pivots and its questions, two more than two for each pivot
  pub told : r.outcome ≡ contradiction_case (length r.pivot_rows) (length r.exchanges)
  pub questions : length r.exchanges ≡ length r.pivot_rows + length r.pivot_rows + 2

-- the questions and answers of a run
pub record AnswerLaws {X : Type 0} (K : Operations) (S : System)
    (M : ScoutMeaning X) (from : X) (r : Ran X) : Type 0 where
  -- the answers are the scout's
  pub gave : Gave S M from r.exchanges r.scout
  -- every question hands over codes; they are of rows and of columns in turn, one or two more than
  -- two for each pivot
  pub hand_codes : All (λ e. HandsCodes K S e.question) r.exchanges
  pub turns : Alternate r.exchanges
  pub counts : (length r.exchanges ≡ length r.pivot_rows + length r.pivot_rows + 1)
      ⊎ (length r.exchanges ≡ length r.pivot_rows + length r.pivot_rows + 2)
  -- the run fails exactly where one of the answers was false, which was the last, and tells what is
  -- false in it
  pub failed : IsFailed r.outcome ↔ SomeFalse K S r.exchanges
  pub before_true : ¬ SomeFalse K S (drop 1 r.exchanges)
  pub tells : IsFailed r.outcome → FailureTells K S r.exchanges r.outcome
  -- so it never fails with a scout whose answers are all true
  pub never_fails : ((state : X) (q : Asked) → ¬ FalseAnswer K S q (M.answer state S q)) →
      ¬ IsFailed r.outcome

-- the pivots of a run
pub record FoundPivots {X : Type 0} (K : Operations) (S : System) (r : Ran X) : Type 0 where
  -- the pivot rows are independent, and so no more than the rank
  pub independent : IndependentRows K (length S.rows) S.width (entry K S) r.pivot_rows
  pub at_most_rank : length r.pivot_rows ≤ rank K (length S.rows) S.width (entry K S)
  -- the pivot columns are different minutes of the hour, none of them 0 in every row, and as many
  -- as the pivot rows
  pub columns : DifferentColumns K S r.pivot_columns
  pub as_many : length r.pivot_columns ≡ length r.pivot_rows

-- the laws of a run that has ended, where x and u are what stands in the record after it
pub record RunLaws {X : Type 0} (K : Operations) (S : System)
    (M : ScoutMeaning X) (from : X) (r : Ran X) (x u : ℕ → ℕ) : Type 0 where
  pub solved : IsSolved r.outcome → SolvedLaws K S r x
  pub contradiction : IsContradiction r.outcome → ContradictionLaws K S r u
  pub answers : AnswerLaws K S M from r
  pub pivots : FoundPivots K S r

-- a run: it is the one defined, writes what it says, and keeps the laws
pub record Settles {X : Type 0} (K : Operations) (S : System)
    (M : ScoutMeaning X) (from to : X) (f f' : Findings) (o : Outcome) : Type 0 where
  pub ran : Ran X
  pub defined : whole_run K S M from ≡ Some ran
  pub outcome : outcome_case o ≡ ran.outcome
  pub scout : to ≡ ran.scout
  pub writes : Writes ran.outcome ran.exchanges f f'
  pub laws : RunLaws K S M from ran (choice f'.minutes) (choice f'.blame)

-- a settle is refused where the work space has under 8192 words
abbrev pub settle_answer : ℕ → Result (Unit {0}) RefusalCase
settle_answer words = refuse 6 (when (nat_lt words WORK_WORDS)) (Ok tt)
