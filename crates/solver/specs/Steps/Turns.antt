-- What the steps of a run in code keep. Assumes nothing.
use Rattle.std.specs.Prelude.{◌≡◌, ℕ, suc, ◌+◌, List, length, Some, None, Ok, Err, Option, Result}
use Rattle.std.specs.Prelude.{MatchResult, IfOk}
use Rattle.std.specs.Result.{result_map_both}
use Rattle.field.specs.Operations.{Operations}
use Rattle.rows.specs.Systems.{System}
use Rattle.algebra.specs.Pivots.{Pivots}
use Rattle.solver.specs.declared.findings.Findings.{Findings}
use Rattle.solver.specs.declared.outcomes.Outcome.{Outcome}
use Rattle.solver.specs.Outcomes.{Case, outcome_case}
use Rattle.solver.specs.Steps.Pivots.{PivotsOfRows}
use Rattle.solver.specs.Scouts.{ScoutMeaning}
use Rattle.solver.specs.Runs.{Exchange, State, Progress, question, end, Ran, Writes, ending, named}
use Rattle.solver.specs.Runs.{exchanged, next_question, step, run}

-- a state with these pivots
abbrev pub state : Pivots → Option ℕ → List Exchange → State
state P row exchanges = record { pivots = P; row = row; exchanges = exchanges }

-- what a step finds, or how the run ends there, as a case
abbrev pub ended : {X : Type 0} → Result X Outcome → Result X Case
ended = result_map_both (λ x. x) outcome_case

-- how a run goes on from a named place, or from its end
abbrev pub next_from : Operations → System → State → List Exchange → Result ℕ Case → Progress
next_from K S st exchanges (Ok i) = question (named K S st.pivots st.row exchanges i)
next_from K S st exchanges (Err o) = end o

-- what was asked once a state's question is answered
abbrev pub exchanges_then : {X : Type 0} → Operations → System → ScoutMeaning X → State → X →
    List Exchange
exchanges_then K S M st from = exchanged K S st (M.answer from S (next_question K S st))

-- a question was put: the scout named a place, or the run has ended
pub record Put {X : Type 0} (K : Operations) (S : System) (M : ScoutMeaning X)
    (st : State) (from to : X) (f f' : Findings) (r : Result ℕ Case) : Type 0 where
  pub scout : to ≡ M.after from S (next_question K S st)
  pub next :
      step K S st (M.answer from S (next_question K S st))
      ≡ next_from K S st (exchanges_then K S M st from) r
  pub writes : MatchResult r (λ i. f' ≡ f) (λ o. Writes o (exchanges_then K S M st from) f f')

-- a question was put, and r is the answer verified: how the run goes on, whatever is written
pub record Continues {X : Type 0} (K : Operations) (S : System) (M : ScoutMeaning X)
    (st : State) (from to : X) (r : Result (Option ℕ) Case) : Type 0 where
  pub failed : (o : Case) (f : Findings) → r ≡ Err o → Put K S M st from to f f (Err o)
  pub none : (o : Case) (f f' : Findings) → r ≡ Ok None →
      o ≡ ending st.pivots st.row (exchanges_then K S M st from) →
      Writes o (exchanges_then K S M st from) f f' → Put K S M st from to f f' (Err o)
  pub place : (i : ℕ) (f : Findings) → r ≡ Ok (Some i) → Put K S M st from to f f (Ok i)

-- a turn that begins with the row question and makes a pivot more: two questions later the run
-- stands at the next turn, and nothing is written
abbrev pub TurnsTo : {X : Type 0} → Operations → System → ScoutMeaning X → (P P' : Pivots) →
    List Exchange → (from to : X) (f f' : Findings) → ℕ → Type 0
TurnsTo K S M P P' exchanges from to f f' left =
    (later : List Exchange) × (length later ≡ P'.count + P'.count)
    × (run K S M (suc (suc left)) (state P None exchanges) from
    ≡ run K S M left (state P' None later) to)
    × (f' ≡ f)

-- a turn in which the run ends
abbrev pub EndsIn : {X : Type 0} → Operations → System → ScoutMeaning X → Pivots →
    List Exchange → (from to : X) (f f' : Findings) → Case → ℕ → Type 0
EndsIn {X = X} K S M P exchanges from to f f' o left =
    (ran : Ran X) × (run K S M (suc (suc left)) (state P None exchanges) from ≡ Some ran)
    × (o ≡ ran.outcome) × (to ≡ ran.scout) × Writes o ran.exchanges f f'

-- one or the other, with as many questions left as are wanted
abbrev pub Turned : {X : Type 0} → Operations → System → ScoutMeaning X → (P P' : Pivots) →
    (from to : X) (f f' : Findings) → Result (Unit {0}) Case → Type 0
Turned K S M P P' from to f f' r =
    (exchanges : List Exchange) (left : ℕ) → length exchanges ≡ P.count + P.count →
    MatchResult r
    (λ _. TurnsTo K S M P P' exchanges from to f f' left)
    (λ o. EndsIn K S M P exchanges from to f f' o left)

-- what a pivot more leaves: pivots again, one more
abbrev pub Grown : Operations → System → (P P' : Pivots) → Result (Unit {0}) Outcome → Type 0
Grown K S P P' r = IfOk r (λ _. PivotsOfRows K S P' × (P'.count ≡ suc P.count))
