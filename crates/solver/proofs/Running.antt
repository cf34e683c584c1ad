-- Runs, one question after the other. Assumes nothing.
use Rattle.std.proofs.Common.{◌≡◌, ◌≢◌, ℕ, zero, suc, ◌<◌, List, ◌∷◌, length, Some, None, Ok, Err, Option, Result, sym, refl, ap, subst, ◌+◌, arith, ◌∙◌}
use Rattle.field.specs.Laws.{Lawful}
use Rattle.rows.specs.Systems.{System}
use Rattle.rows.specs.Values.{entry}
use Rattle.std.specs.Result.{MatchResult}
use Rattle.algebra.specs.Pivots.{Pivots, schur, solution, multipliers, grow}
use Rattle.algebra.proofs.Growth.{grow-PivotsOf}
use Rattle.algebra.proofs.Pivots.{count-le_columns}
use Rattle.algebra.specs.Profiles.{pivot_rows}
use Rattle.solver.specs.declared.findings.Findings.{Findings}
use Rattle.solver.specs.declared.outcomes.Outcome.{Outcome}
use Rattle.solver.specs.Outcomes.{Case, outcome_case, solved_case, contradiction_case, failed_case}
use Rattle.solver.specs.Scouts.{ScoutMeaning}
use Rattle.rows.specs.Systems.{sum_at}
use Rattle.solver.specs.Steps.Pivots.{PivotsOfRows}
use Rattle.solver.specs.Steps.Pivots.{SamePivots}
use Rattle.solver.specs.Questions.{Asked, about_rows, about_columns, side, verified}
use Rattle.solver.specs.Runs.{Exchange, State, Progress, question, end, Ran, question_of, next_question, exchanged, named, ending, continued, step, pivot_columns, run, Writes}
use Rattle.solver.specs.Steps.Turns.{state, ended, Put, TurnsTo, EndsIn}
use Rattle.solver.proofs.Filling.{values_same}
use Rattle.solver.proofs.Same.{solution-same, multipliers-same, grow-same, pivot_rows-same, pivot_columns-same}

module _ {X : Type 0} (F : Lawful) (S : System) (M : ScoutMeaning X) where
  -- a run from what a step leads to
  unfoldable pub go : ℕ → Pivots → List Exchange → X → Progress → Option (Ran X)
  go left P exchanges scout (question later) = run F.ops S M left later scout
  go left P exchanges scout (end o) = Some (record { outcome = o; pivot_rows = pivot_rows P; pivot_columns = pivot_columns P; exchanges = exchanges; scout = scout })

  pub run_step : (left : ℕ) (st : State) (scout : X) →
      run F.ops S M (suc left) st scout
      ≡ go left st.pivots (exchanged F.ops S st (M.answer scout S (next_question F.ops S st))) (M.after scout S (next_question F.ops S st)) (step F.ops S st (M.answer scout S (next_question F.ops S st)))
  unfolding run go
  run_step left st scout = refl

  -- a question that was put leads on, or ends the run
  pub run_on : (left : ℕ) (st : State) (from to : X) (f f' : Findings) (i : ℕ) → Put F.ops S M st from to f f' (Ok i) →
      run F.ops S M (suc left) st from ≡ run F.ops S M left (named F.ops S st.pivots st.row (exchanged F.ops S st (M.answer from S (next_question F.ops S st))) i) to
  unfolding run go
  run_on left st from to f f' i P =
      let exchanges = exchanged F.ops S st (M.answer from S (next_question F.ops S st)) in
      run_step left st from
      ∙ ap (go left st.pivots exchanges (M.after from S (next_question F.ops S st))) P.next
      ∙ ap (run F.ops S M left (named F.ops S st.pivots st.row exchanges i)) (sym P.scout)

  pub run_ended : (left : ℕ) (st : State) (from to : X) (f f' : Findings) (o : Case) → Put F.ops S M st from to f f' (Err o) →
      run F.ops S M (suc left) st from
      ≡ Some (record { outcome = o; pivot_rows = pivot_rows st.pivots; pivot_columns = pivot_columns st.pivots; exchanges = exchanged F.ops S st (M.answer from S (next_question F.ops S st)); scout = to })
  unfolding go
  run_ended left st from to f f' o P =
      let exchanges = exchanged F.ops S st (M.answer from S (next_question F.ops S st)) in
      run_step left st from
      ∙ ap (go left st.pivots exchanges (M.after from S (next_question F.ops S st))) P.next
      ∙ ap (λ sc. Some (record { outcome = o; pivot_rows = pivot_rows st.pivots; pivot_columns = pivot_columns st.pivots; exchanges = exchanges; scout = sc })) (sym P.scout)

  ending-same : (P Q : Pivots) (row : Option ℕ) (exchanges : List Exchange) → SamePivots P Q → ending P row exchanges ≡ ending Q row exchanges
  ending-same P Q None exchanges same = ap (λ s. solved_case s (length exchanges)) same.count
  ending-same P Q (Some i) exchanges same = ap (λ s. contradiction_case s (length exchanges)) same.count

  -- pivots that are the same as far as they count run alike
  question-same : (P Q : Pivots) (row : Option ℕ) → SamePivots P Q → question_of F.ops S P row ≡ question_of F.ops S Q row
  question-same P Q None same = ap about_rows (values_same S.width S.width (solution F.ops (sum_at S) P) (solution F.ops (sum_at S) Q) refl (λ j h. solution-same F (entry F.ops S) P Q same (sum_at S) j))
  question-same P Q (Some i) same =
      ap about_columns (values_same (length S.rows) (length S.rows) (multipliers F.ops (entry F.ops S) P i) (multipliers F.ops (entry F.ops S) Q i) refl (λ j h. multipliers-same F (entry F.ops S) P Q same i j))

  abbrev SameRuns : ℕ → Type 0
  SameRuns left = (P Q : Pivots) (row : Option ℕ) (exchanges : List Exchange) (scout : X) → SamePivots P Q → run F.ops S M left (state P row exchanges) scout ≡ run F.ops S M left (state Q row exchanges) scout

  go-same : (left : ℕ) (later : SameRuns left) (P Q : Pivots) (row : Option ℕ) (q : Asked) (exchanges : List Exchange) (scout : X) (t : Result (Option ℕ) Case) → SamePivots P Q →
      go left P exchanges scout (continued F.ops S P row q exchanges t) ≡ go left Q exchanges scout (continued F.ops S Q row q exchanges t)
  unfolding go
  go-same left later P Q row q exchanges scout (Err fault) same =
      ap (λ rows. Some (record { outcome = failed_case (length exchanges) (side q) fault; pivot_rows = rows; pivot_columns = pivot_columns P; exchanges = exchanges; scout = scout })) (pivot_rows-same F (entry F.ops S) P Q same)
      ∙ ap (λ columns. Some (record { outcome = failed_case (length exchanges) (side q) fault; pivot_rows = pivot_rows Q; pivot_columns = columns; exchanges = exchanges; scout = scout })) (pivot_columns-same F (entry F.ops S) P Q same)
  go-same left later P Q row q exchanges scout (Ok None) same =
      ap (λ o. Some (record { outcome = o; pivot_rows = pivot_rows P; pivot_columns = pivot_columns P; exchanges = exchanges; scout = scout })) (ending-same P Q row exchanges same)
      ∙ ap (λ rows. Some (record { outcome = ending Q row exchanges; pivot_rows = rows; pivot_columns = pivot_columns P; exchanges = exchanges; scout = scout })) (pivot_rows-same F (entry F.ops S) P Q same)
      ∙ ap (λ columns. Some (record { outcome = ending Q row exchanges; pivot_rows = pivot_rows Q; pivot_columns = columns; exchanges = exchanges; scout = scout })) (pivot_columns-same F (entry F.ops S) P Q same)
  go-same left later P Q None q exchanges scout (Ok (Some i)) same = later P Q (Some i) exchanges scout same
  go-same left later P Q (Some r) q exchanges scout (Ok (Some j)) same =
      later (grow F.ops (entry F.ops S) P r j) (grow F.ops (entry F.ops S) Q r j) None exchanges scout (grow-same F (entry F.ops S) P Q same r j)

  pub run-same : (left : ℕ) → SameRuns left
  unfolding run
  run-same zero P Q row exchanges scout same = refl
  run-same (suc left) P Q row exchanges scout same =
      let put = λ (T : Pivots) (q : Asked). go left T (record { question = q; answer = M.answer scout S q } ∷ exchanges) (M.after scout S q) (continued F.ops S T row q (record { question = q; answer = M.answer scout S q } ∷ exchanges) (verified F.ops S q (M.answer scout S q))) in
      let q = question_of F.ops S Q row in
      run_step left (state P row exchanges) scout
      ∙ ap (put P) (question-same P Q row same)
      ∙ go-same left (run-same left) P Q row q (record { question = q; answer = M.answer scout S q } ∷ exchanges) (M.after scout S q) (verified F.ops S q (M.answer scout S q)) same
      ∙ sym (run_step left (state Q row exchanges) scout)

  -- a turn of the code
  module _ (P : Pivots) (exchanges : List Exchange) (left : ℕ) where
    -- it ends with the row question
    pub ends_at_rows : (from to : X) (f f' : Findings) (o : Case) → Put F.ops S M (state P None exchanges) from to f f' (Err o) → EndsIn F.ops S M P exchanges from to f f' o left
    ends_at_rows from to f f' o put =
        let ran : Ran X = record { outcome = o; pivot_rows = pivot_rows P; pivot_columns = pivot_columns P; exchanges = exchanged F.ops S (state P None exchanges) (M.answer from S (question_of F.ops S P None)); scout = to } in
        (ran, run_ended (suc left) (state P None exchanges) from to f f' o put, refl, refl, put.writes)

    module _ (from mid to : X) (f f' f'' : Findings) (i : ℕ) (rows : Put F.ops S M (state P None exchanges) from mid f f' (Ok i)) where
      abbrev pub further : List Exchange
      further = exchanged F.ops S (state P None exchanges) (M.answer from S (question_of F.ops S P None))

      -- or with the column question
      pub ends_at_columns : (o : Case) → Put F.ops S M (state P (Some i) further) mid to f' f'' (Err o) → EndsIn F.ops S M P exchanges from to f f'' o left
      ends_at_columns o put =
          let last = exchanged F.ops S (state P (Some i) further) (M.answer mid S (question_of F.ops S P (Some i))) in
          let ran : Ran X = record { outcome = o; pivot_rows = pivot_rows P; pivot_columns = pivot_columns P; exchanges = last; scout = to } in
          (ran, run_on (suc left) (state P None exchanges) from mid f f' i rows ∙ run_ended left (state P (Some i) further) mid to f' f'' o put, refl, refl, subst (λ f. Writes o last f f'') rows.writes put.writes)

      -- or leads on
      pub turns : (P' : Pivots) (j : ℕ) → Put F.ops S M (state P (Some i) further) mid to f' f'' (Ok j) → SamePivots P' (grow F.ops (entry F.ops S) P i j) → length exchanges ≡ P.count + P.count → TurnsTo F.ops S M P P' exchanges from to f f'' left
      turns P' j put same many =
          let last = exchanged F.ops S (state P (Some i) further) (M.answer mid S (question_of F.ops S P (Some i))) in (
            last,
            omega (arith, same.count, many),
            run_on (suc left) (state P None exchanges) from mid f f' i rows
                ∙ run_on left (state P (Some i) further) mid to f' f'' j put
                ∙ sym (run-same left P' (grow F.ops (entry F.ops S) P i j) None last to same),
            put.writes ∙ rows.writes,
          )

-- what holds at how a run ended, of the answer that hands it on
pub match_ended : {T : Type 0} (A : T → Type 0) (B : Case → Type 0) (r : Result T Outcome) (o : Outcome) → r ≡ Err o → B (outcome_case o) → MatchResult (ended r) A B
match_ended A B r o is b = subst (λ r. MatchResult (ended r) A B) (sym is) b

-- a pivot more
module _ (F : Lawful) (S : System) (P : Pivots) (I : PivotsOfRows F.ops S P) (i j : ℕ) (hi : i < length S.rows) (hj : j < S.width) (some : schur F.ops (entry F.ops S) P i j ≢ 0) where
  pub grown_pivots : PivotsOfRows F.ops S (grow F.ops (entry F.ops S) P i j)
  grown_pivots = grow-PivotsOf F (length S.rows) S.width (entry F.ops S) P i j I hi hj some

  pub room : P.count < S.width
  room = let most = count-le_columns F (length S.rows) S.width (entry F.ops S) (grow F.ops (entry F.ops S) P i j) grown_pivots in omega arith
