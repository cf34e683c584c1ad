-- What every run keeps. Assumes nothing.
use Rattle.std.proofs.Common.{◌≡◌, ◌≢◌, ℕ, zero, suc, ◌+◌, ◌<◌, ◌≤◌, List, ◌∷◌, length, get_or, ◌⊎◌, ◌↔◌, ◌%◌, Some, None, Ok, Err, Option, Result, sym, refl, ap, subst, ◌∙◌, inl, inr, arith, mod-eq_of_lt, le_of_suc-le-suc}
use Rattle.std.specs.List.{All, Contains}
use Rattle.std.specs.Result.{IfOk}
use Rattle.field.specs.Operations.{Operations}
use Rattle.field.specs.Laws.{Lawful}
use Rattle.field.proofs.FieldLemmas.{times-zero, zero-mod-q}
use Rattle.rows.specs.Systems.{System, row_at, WellFormed}
use Rattle.rows.specs.Values.{choice, entry, SatisfiesAll}
use Rattle.rows.specs.Columns.{ZeroColumn, DifferentColumns}
use Rattle.rows.proofs.RowValues.{value_tells}
use Rattle.algebra.specs.Places.{Outside}
use Rattle.algebra.specs.Vectors.{δ, mul_vec, vec_mul, dot, place}
use Rattle.algebra.specs.Spans.{SolvesAll}
use Rattle.algebra.specs.Pivots.{Pivots, row_coefficients, solution, multipliers}
use Rattle.algebra.specs.Profiles.{pivot_rows}
use Rattle.algebra.proofs.Counting.{get_or-values}
use Rattle.algebra.proofs.Deltas.{δ-self}
use Rattle.algebra.proofs.Growth.{no_pivots-PivotsOf}
use Rattle.algebra.proofs.Profiles.{pivot_rows-length, pivot_rows-IndependentRows, count-le_rank}
use Rattle.algebra.proofs.Pivots.{count-le_columns, pivot_columns-Distinct, Solves-unique, SolvesAll-unique, dot-multipliers}
use Rattle.algebra.proofs.Systems.{no_solution}
use Rattle.algebra.proofs.Sums.{Σ-congr, Σ-code, Σ-of_zero, place-elsewhere}
use Rattle.frame.specs.declared.refusals.Refusal.{Refusal}
use Rattle.solver.specs.declared.findings.Findings.{Findings}
use Rattle.solver.specs.declared.outcomes.Outcome.{Outcome}
use Rattle.solver.specs.Slices.{Codes}
use Rattle.rows.specs.Systems.{sum_at}
use Rattle.solver.specs.Steps.Pivots.{PivotsOfRows}
use Rattle.solver.specs.Questions.{Asked, about_rows, about_columns, HandsCodes, side, value_at, verified, FalseAnswer, TrueAnswer, Verifies}
use Rattle.solver.specs.Outcomes.{Case, side_case, solved_case, contradiction_case, failed_case, outcome_case, IsFailed}
use Rattle.solver.specs.Scouts.{ScoutMeaning}
use Rattle.solver.specs.Runs.{Exchange, State, start, Progress, question, end, Ran, list_of, x_of, u_of, question_of, next_question, named, ending, continued, step, pivot_columns, run, whole_run, most_questions, Writes}
use Rattle.solver.specs.Steps.Turns.{state}
use Rattle.solver.specs.Laws.{Gave, SomeFalse, Alternate, FailureTells, SolvedLaws, ContradictionLaws, AnswerLaws, FoundPivots, RunLaws, Settles}
use Rattle.solver.proofs.Verifying.{verifies, true_not_false}
use Rattle.solver.proofs.Filling.{values_hold}
use Rattle.solver.proofs.Matrix.{SatisfiesAll-congr, SolvesAll-of_SatisfiesAll}
use Rattle.solver.proofs.Asking.{row_left, column_left}
use Rattle.solver.proofs.Running.{go, run_step, grown_pivots}

-- the two ways of going on are apart
end_question : (o : Case) (st : State) → ◌≡◌ {A = Progress} (end o) (question st) → ⊥
end_question o st e = let z : ◌≡◌ {A = ℕ} 0 1 = cc in omega arith

module _ {X : Type 0} (F : Lawful) (S : System) (formed : WellFormed S) (M : ScoutMeaning X) (from : X) where
  -- the row whose column question is next is there, and x leaves something of it
  abbrev RowLeft : Pivots → Option ℕ → Type 0
  RowLeft P None = Unit {0}
  RowLeft P (Some i) = (i < length S.rows) × (value_at F.ops S (about_rows (x_of F.ops S P)) i ≢ 0)

  -- two questions for each pivot, and one for that row
  abbrev Counted : ℕ → Option ℕ → ℕ → Type 0
  Counted s None k = k ≡ s + s
  Counted s (Some i) k = k ≡ s + s + 1

  abbrev AllHand : List Exchange → Type 0
  AllHand = All (λ (e : Exchange). HandsCodes F.ops S e.question)

  -- x and u are codes
  solution_code : (P : Pivots) (c : ℕ) → solution F.ops (sum_at S) P c < F.ops.q
  solution_code P c =
      let y = mul_vec F.ops P.count P.inverse (λ l. sum_at S (P.row l)) in
      Σ-code F P.count (λ k. F.ops.times (y k) (δ (P.column k) c))

  multipliers_code : (P : Pivots) (i r : ℕ) → multipliers F.ops (entry F.ops S) P i r < F.ops.q
  multipliers_code P i r = F.plus_code (δ i r) (F.ops.negative (place F.ops P.count P.row (row_coefficients F.ops (entry F.ops S) P i) r))

  -- values that are all codes
  values_codes : (n : ℕ) (f : ℕ → ℕ) → ((k : ℕ) → f k < F.ops.q) → (length (list_of n f) ≡ n) × Codes F.ops.q (list_of n f)
  values_codes n f code =
      let held = values_hold n f in
      (held.long, λ k h. subst (λ v. v < F.ops.q) (sym (held.each k (let e = held.long in omega arith))) (code k))

  question_hands : (P : Pivots) (row : Option ℕ) → HandsCodes F.ops S (question_of F.ops S P row)
  question_hands P None = values_codes S.width (solution F.ops (sum_at S) P) (solution_code P)
  question_hands P (Some i) = values_codes (length S.rows) (multipliers F.ops (entry F.ops S) P i) (multipliers_code P i)

  abbrev answer_of : Pivots → Option ℕ → X → Option ℕ
  answer_of P row scout = M.answer scout S (question_of F.ops S P row)

  hands_more : (P : Pivots) (row : Option ℕ) (exchanges : List Exchange) (a : Option ℕ) → AllHand exchanges → AllHand (record { question = question_of F.ops S P row; answer = a } ∷ exchanges)
  hands_more P row exchanges a hand zero d h = question_hands P row
  hands_more P row exchanges a hand (suc k) d h = hand k d (le_of_suc-le-suc h)

  -- what a run keeps between two questions
  pub record Keeps (st : State) (scout : X) : Type 0 where
    pub pivots : PivotsOfRows F.ops S st.pivots
    pub row : RowLeft st.pivots st.row
    pub count : Counted st.pivots.count st.row (length st.exchanges)
    pub turns : Alternate st.exchanges
    pub all_true : SomeFalse F.ops S st.exchanges → ⊥
    pub hand_codes : AllHand st.exchanges
    pub gave : Gave S M from st.exchanges scout

  pub keeps_start : Keeps start from
  keeps_start =
      record {
        pivots = no_pivots-PivotsOf F (length S.rows) S.width (entry F.ops S);
        row = tt;
        count = refl;
        turns = tt;
        all_true = λ none. none;
        hand_codes = λ k d h. absurd (omega arith);
        gave = refl;
      }

  -- the answer that comes next
  abbrev asks : State → X → Exchange
  asks st scout = record { question = next_question F.ops S st; answer = M.answer scout S (next_question F.ops S st) }

  still_true : (st : State) (scout : X) → Keeps st scout → TrueAnswer F.ops S (next_question F.ops S st) (M.answer scout S (next_question F.ops S st)) → SomeFalse F.ops S (asks st scout ∷ st.exchanges) → ⊥
  still_true st scout K t (inl f) = true_not_false F.ops S (next_question F.ops S st) (M.answer scout S (next_question F.ops S st)) t f
  still_true st scout K t (inr f) = K.all_true f

  -- a row's column question is the next in turn after a row question, and a row question after that
  turn_next : (P : Pivots) (row : Option ℕ) (k : ℕ) → Counted P.count row k → (side_case (side (question_of F.ops S P row))).number ≡ suc (k % 2)
  turn_next P None k counted = omega (arith, counted)
  turn_next P (Some i) k counted = omega (arith, counted)

  -- the last question has been put
  counts_last : (s : ℕ) (row : Option ℕ) (k : ℕ) → Counted s row k → (suc k ≡ s + s + 1) ⊎ (suc k ≡ s + s + 2)
  counts_last s None k counted = inl (omega (arith, counted))
  counts_last s (Some i) k counted = inr (omega (arith, counted))

  -- a true answer that names a place leads on
  named_keeps : (P : Pivots) (row : Option ℕ) (exchanges : List Exchange) (scout : X) (i : ℕ) → Keeps (state P row exchanges) scout →
      TrueAnswer F.ops S (question_of F.ops S P row) (M.answer scout S (question_of F.ops S P row)) → M.answer scout S (question_of F.ops S P row) ≡ Some i →
      Keeps (named F.ops S P row (asks (state P row exchanges) scout ∷ exchanges) i) (M.after scout S (question_of F.ops S P row))
  named_keeps P None exchanges scout i K t e =
      let named = subst (TrueAnswer F.ops S (question_of F.ops S P None)) e t in
      record {
        pivots = K.pivots;
        row = named;
        count = omega (arith, K.count);
        turns = (turn_next P None (length exchanges) K.count, K.turns);
        all_true = still_true (state P None exchanges) scout K t;
        hand_codes = hands_more P None exchanges (answer_of P None scout) K.hand_codes;
        gave = (scout, K.gave, refl, refl);
      }
  named_keeps P (Some r) exchanges scout i K t e =
      let named = subst (TrueAnswer F.ops S (question_of F.ops S P (Some r))) e t in
      record {
        pivots = grown_pivots F S P K.pivots r i K.row.0 named.0 (λ z. named.1 (column_left F S formed P K.pivots r i K.row.0 ∙ z));
        row = tt;
        count = omega (arith, K.count);
        turns = (turn_next P (Some r) (length exchanges) K.count, K.turns);
        all_true = still_true (state P (Some r) exchanges) scout K t;
        hand_codes = hands_more P (Some r) exchanges (answer_of P (Some r) scout) K.hand_codes;
        gave = (scout, K.gave, refl, refl);
      }

  leads_on : (P : Pivots) (row : Option ℕ) (exchanges : List Exchange) (scout : X) → Keeps (state P row exchanges) scout → (t : Result (Option ℕ) Case) (later : State) →
      Verifies F.ops S (question_of F.ops S P row) (M.answer scout S (question_of F.ops S P row)) t →
      continued F.ops S P row (question_of F.ops S P row) (asks (state P row exchanges) scout ∷ exchanges) t ≡ question later → Keeps later (M.after scout S (question_of F.ops S P row))
  leads_on P row exchanges scout K (Err fault) later j e = absurd (end_question (failed_case (suc (length exchanges)) (side (question_of F.ops S P row)) fault) later e)
  leads_on P row exchanges scout K (Ok None) later j e = absurd (end_question (ending P row (asks (state P row exchanges) scout ∷ exchanges)) later e)
  leads_on P row exchanges scout K (Ok (Some i)) later j e =
      let same : named F.ops S P row (asks (state P row exchanges) scout ∷ exchanges) i ≡ later = cc in
      subst (λ st. Keeps st (M.after scout S (question_of F.ops S P row))) same (named_keeps P row exchanges scout i K j.1 (sym j.0))

  -- a run that ends so with the next question
  abbrev ran_to : State → X → Case → Ran X
  ran_to st scout o = record { outcome = o; pivot_rows = pivot_rows st.pivots; pivot_columns = pivot_columns st.pivots; exchanges = asks st scout ∷ st.exchanges; scout = M.after scout S (next_question F.ops S st) }

  -- the last question of a run
  pub record Last (r : Ran X) : Type 0 where
    pub st : State
    pub scout : X
    pub keeps : Keeps st scout
    pub outcome : Case
    pub ended : step F.ops S st (M.answer scout S (next_question F.ops S st)) ≡ end outcome
    pub is : r ≡ ran_to st scout outcome

  named_asked : (P : Pivots) (row : Option ℕ) (exchanges : List Exchange) (i : ℕ) → (named F.ops S P row exchanges i).exchanges ≡ exchanges
  named_asked P None exchanges i = refl
  named_asked P (Some r) exchanges i = refl

  asked_later : (P : Pivots) (row : Option ℕ) (q : Asked) (exchanges : List Exchange) (t : Result (Option ℕ) Case) (later : State) → continued F.ops S P row q exchanges t ≡ question later → later.exchanges ≡ exchanges
  asked_later P row q exchanges (Err fault) later e = absurd (end_question (failed_case (length exchanges) (side q) fault) later e)
  asked_later P row q exchanges (Ok None) later e = absurd (end_question (ending P row exchanges) later e)
  asked_later P row q exchanges (Ok (Some i)) later e =
      let same : named F.ops S P row exchanges i ≡ later = cc in
      ap (λ (st : State). st.exchanges) (sym same) ∙ named_asked P row exchanges i

  counted_below : (s : ℕ) (row : Option ℕ) (k : ℕ) → s ≤ S.width → Counted s row k → k < most_questions S
  counted_below s None k few c = omega arith
  counted_below s (Some i) k few c = omega arith

  asked_below : (st : State) (scout : X) → Keeps st scout → length st.exchanges < most_questions S
  asked_below st scout K = counted_below st.pivots.count st.row (length st.exchanges) (count-le_columns F (length S.rows) S.width (entry F.ops S) st.pivots K.pivots) K.count

  -- every run that ends has one, and a run with questions enough ends
  abbrev Ends : ℕ → Type 0
  Ends left = (st : State) (scout : X) → Keeps st scout → most_questions S ≤ left + length st.exchanges → (r : Ran X) × (run F.ops S M left st scout ≡ Some r) × Last r

  goes : (left : ℕ) → Ends left → (st : State) (scout : X) → Keeps st scout → most_questions S ≤ suc left + length st.exchanges → (n : Progress) →
      step F.ops S st (M.answer scout S (next_question F.ops S st)) ≡ n →
      (r : Ran X) × (go F S M left st.pivots (asks st scout ∷ st.exchanges) (M.after scout S (next_question F.ops S st)) n ≡ Some r) × Last r
  unfolding go
  goes left ends st scout K enough (question later) e =
      let q = next_question F.ops S st in
      let t = verified F.ops S q (M.answer scout S q) in
      let exchanges = asked_later st.pivots st.row q (asks st scout ∷ st.exchanges) t later e in
      let more : length later.exchanges ≡ suc (length st.exchanges) = ap length exchanges in
      ends later (M.after scout S q) (leads_on st.pivots st.row st.exchanges scout K t later (verifies F.ops S q (M.answer scout S q)) e) (omega arith)
  goes left ends st scout K enough (end o) e = (
    ran_to st scout o,
    refl,
    record { st = st; scout = scout; keeps = K; outcome = o; ended = e; is = refl },
  )

  pub last_of : (left : ℕ) → Ends left
  last_of zero st scout K enough = let few = asked_below st scout K in absurd (omega arith)
  last_of (suc left) st scout K enough =
      let found = goes left (last_of left) st scout K enough (step F.ops S st (M.answer scout S (next_question F.ops S st))) refl in
      (found.0, run_step F S M left st scout ∙ found.1, found.2)

  -- the laws at the last question, whose answer was verified
  module _ (P : Pivots) (row : Option ℕ) (exchanges : List Exchange) (scout : X) (K : Keeps (state P row exchanges) scout) where
    abbrev q : Asked
    q = question_of F.ops S P row

    abbrev now : List Exchange
    now = asks (state P row exchanges) scout ∷ exchanges

    abbrev ran : Case → Ran X
    ran o = ran_to (state P row exchanges) scout o

    long : length (pivot_rows P) ≡ P.count
    long = pivot_rows-length F (length S.rows) S.width (entry F.ops S) P

    counts_now : (length now ≡ length (pivot_rows P) + length (pivot_rows P) + 1) ⊎ (length now ≡ length (pivot_rows P) + length (pivot_rows P) + 2)
    counts_now = subst (λ s. (length now ≡ s + s + 1) ⊎ (length now ≡ s + s + 2)) (sym long) (counts_last P.count row (length exchanges) K.count)

    never_false : ((state : X) (q : Asked) → FalseAnswer F.ops S q (M.answer state S q) → ⊥) → SomeFalse F.ops S now → ⊥
    never_false all_true (inl f) = all_true scout q f
    never_false all_true (inr f) = K.all_true f

    answers : (o : Case) → IsFailed o ↔ SomeFalse F.ops S now → (IsFailed o → FailureTells F.ops S now o) → AnswerLaws F.ops S M from (ran o)
    answers o failed tells =
        record {
          gave = (scout, K.gave, refl, refl);
          hand_codes = hands_more P row exchanges (answer_of P row scout) K.hand_codes;
          turns = (turn_next P row (length exchanges) K.count, K.turns);
          counts = counts_now;
          failed = failed;
          before_true = K.all_true;
          tells = tells;
          never_fails = λ all_true e. never_false all_true (failed.0 e);
        }

    -- a run whose last answer was true has not failed
    true_answers : (o : Case) → (IsFailed o → ⊥) → TrueAnswer F.ops S q (M.answer scout S q) → AnswerLaws F.ops S M from (ran o)
    true_answers o not_failed t =
        answers o
        (λ e. absurd (not_failed e), λ false. absurd (still_true (state P row exchanges) scout K t false))
        (λ e. absurd (not_failed e))

    -- the pivot columns
    column_at : (k d : ℕ) → k < P.count → get_or (pivot_columns P) k d ≡ P.column k
    column_at k d h = get_or-values P.count P.column k d h

    long_columns : length (pivot_columns P) ≡ P.count
    long_columns = (values_hold P.count P.column).long

    column_some : (k : ℕ) → k < P.count → ZeroColumn F.ops S (P.column k) → ⊥
    column_some k h none =
        let A = entry F.ops S in
        let products = λ (l : ℕ). F.ops.times (P.inverse k l) (A (P.row l) (P.column k)) in
        let nothing = Σ-of_zero F P.count products (λ l hl. ap (λ v. v % F.ops.q) (ap (F.ops.times (P.inverse k l)) (none (P.row l) (K.pivots.rows_below l hl)) ∙ times-zero F (P.inverse k l)) ∙ zero-mod-q F) in
        let one = sym nothing ∙ K.pivots.inverts.left k k h h ∙ δ-self k in
        omega arith

    columns : DifferentColumns F.ops S (pivot_columns P)
    columns =
        record {
          below = λ k d h.
              let l : k < P.count = omega (arith, long_columns) in
              subst (λ c. c < S.width) (sym (column_at k d l)) (K.pivots.columns_below k l);
          differ = λ i j d less h e.
              let l : j < P.count = omega (arith, long_columns) in
              let same = pivot_columns-Distinct F (length S.rows) S.width (entry F.ops S) P K.pivots i j (omega arith) l (sym (column_at i d (omega arith)) ∙ e ∙ column_at j d l) in
              omega arith;
          none_zero = λ k d h none.
              let l : k < P.count = omega (arith, long_columns) in
              column_some k l (subst (ZeroColumn F.ops S) (column_at k d l) none);
        }

    contains_column : (c k : ℕ) → k < P.count → P.column k ≡ c → Contains (pivot_columns P) c
    contains_column c k h e = (k, omega (arith, long_columns), column_at k c h ∙ e)

    outside_column : (c : ℕ) → Outside P.count P.column c → Contains (pivot_columns P) c → ⊥
    outside_column c out found =
        let l : found.0 < P.count = let h = found.1 in omega (arith, long_columns) in
        out found.0 l (sym (column_at found.0 c l) ∙ found.2)

    found : (o : Case) → FoundPivots F.ops S (ran o)
    found o =
        record {
          independent = pivot_rows-IndependentRows F (length S.rows) S.width (entry F.ops S) P K.pivots;
          at_most_rank = let few = count-le_rank F (length S.rows) S.width (entry F.ops S) P K.pivots in omega (arith, long);
          columns = columns;
          as_many = long_columns ∙ sym long;
        }

    abbrev Laws : Findings → Case → Type 0
    Laws f o = RunLaws F.ops S M from (ran o) (choice f.minutes) (choice f.blame)

    failed_laws : (f : Findings) (fault : Case) → Verifies F.ops S q (M.answer scout S q) (Err fault) → Laws f (failed_case (length now) (side q) fault)
    failed_laws f fault v =
        record {
          solved = λ e. absurd (omega arith);
          contradiction = λ e. absurd (omega arith);
          answers = answers (failed_case (length now) (side q) fault) (λ _. inl v.0, λ _. refl) (λ _. (v.1.0, v.1.1, ap (failed_case (length now) (side q)) v.1.2));
          pivots = found (failed_case (length now) (side q) fault);
        }

  -- the last question was one of rows, and no row is left
  module _ (P : Pivots) (exchanges : List Exchange) (scout : X) (K : Keeps (state P None exchanges) scout) (f f' : Findings)
      (own : TrueAnswer F.ops S (about_rows (x_of F.ops S P)) (M.answer scout S (about_rows (x_of F.ops S P)))) (t : TrueAnswer F.ops S (about_rows (x_of F.ops S P)) None) (W : Writes (ending P None (now P None exchanges scout K)) (now P None exchanges scout K) f f') where
    abbrev x : List ℕ
    x = x_of F.ops S P

    abbrev minutes : ℕ → ℕ
    minutes = choice f'.minutes

    x_is : (c : ℕ) → c < S.width → minutes c ≡ choice x c
    x_is c h = (W.minutes refl).0.done c (let l = (values_hold S.width (solution F.ops (sum_at S) P)).long in omega arith)

    x_solution : (c : ℕ) → c < S.width → minutes c ≡ solution F.ops (sum_at S) P c
    x_solution c h = x_is c h ∙ (values_hold S.width (solution F.ops (sum_at S) P)).each c h

    satisfied : SatisfiesAll F.ops S minutes
    satisfied = SatisfiesAll-congr F S formed (choice x) minutes (λ c h. sym (x_is c h)) (λ i h. (value_tells F (choice x) (row_at S i)).zero_satisfies (t i h))

    x_codes : (c : ℕ) → c < S.width → minutes c < F.ops.q
    x_codes c h = subst (λ v. v < F.ops.q) (sym (x_solution c h)) (solution_code P c)

    -- as a system of equations
    solves : (y : ℕ → ℕ) → SatisfiesAll F.ops S y → SolvesAll F.ops (length S.rows) S.width (entry F.ops S) (sum_at S) y
    solves y ys = SolvesAll-of_SatisfiesAll F S formed y ys

    solved_laws : SolvedLaws F.ops S (ran P None exchanges scout K (ending P None (now P None exchanges scout K))) minutes
    solved_laws =
        let A = entry F.ops S in
        let b = sum_at S in
        let l = long P None exchanges scout K in
        let counted = K.count in
        record {
          satisfied = satisfied;
          codes = x_codes;
          elsewhere = λ c h none.
              x_solution c h
              ∙ place-elsewhere F P.count P.column (mul_vec F.ops P.count P.inverse (λ l. b (P.row l))) c (λ k hk e. none (contains_column P None exchanges scout K c k hk e));
          determined = λ y ys agree c h.
              Solves-unique F (length S.rows) S.width A P K.pivots b y minutes
              (λ k hk. solves y ys (P.row k) (K.pivots.rows_below k hk))
              (λ k hk. solves minutes satisfied (P.row k) (K.pivots.rows_below k hk))
              (λ c h out. agree c h (outside_column P None exchanges scout K c out)) c h
              ∙ mod-eq_of_lt (x_codes c h);
          only = λ whole y ys c h.
              SolvesAll-unique F (length S.rows) S.width A P K.pivots (sym l ∙ whole) b y minutes (solves y ys) (solves minutes satisfied) c h
              ∙ mod-eq_of_lt (x_codes c h);
          told = ap (λ s. solved_case s (suc (length exchanges))) (sym l);
          questions = omega arith;
        }

    laws_of_solved : RunLaws F.ops S M from (ran P None exchanges scout K (ending P None (now P None exchanges scout K))) minutes (choice f'.blame)
    laws_of_solved =
        record {
          solved = λ _. solved_laws;
          contradiction = λ e. absurd (omega arith);
          answers = true_answers P None exchanges scout K (ending P None (now P None exchanges scout K)) (λ e. omega arith) own;
          pivots = found P None exchanges scout K (ending P None (now P None exchanges scout K));
        }

  -- or it was one of columns, and none of them is left
  module _ (P : Pivots) (i : ℕ) (exchanges : List Exchange) (scout : X) (K : Keeps (state P (Some i) exchanges) scout) (f f' : Findings)
      (own : TrueAnswer F.ops S (about_columns (u_of F.ops S P i)) (M.answer scout S (about_columns (u_of F.ops S P i)))) (t : TrueAnswer F.ops S (about_columns (u_of F.ops S P i)) None) (W : Writes (ending P (Some i) (now P (Some i) exchanges scout K)) (now P (Some i) exchanges scout K) f f') where
    abbrev u : List ℕ
    u = u_of F.ops S P i

    abbrev blame : ℕ → ℕ
    blame = choice f'.blame

    u_is : (r : ℕ) → r < length S.rows → blame r ≡ choice u r
    u_is r h = (W.blame refl).1.done r (let l = (values_hold (length S.rows) (multipliers F.ops (entry F.ops S) P i)).long in omega arith)

    u_multipliers : (r : ℕ) → r < length S.rows → blame r ≡ multipliers F.ops (entry F.ops S) P i r
    u_multipliers r h = u_is r h ∙ (values_hold (length S.rows) (multipliers F.ops (entry F.ops S) P i)).each r h

    null : (c : ℕ) → c < S.width → vec_mul F.ops (length S.rows) blame (entry F.ops S) c ≡ 0
    null c h = Σ-congr F (length S.rows) (λ r. F.ops.times (blame r) (entry F.ops S r c)) (λ r. F.ops.times (choice u r) (entry F.ops S r c)) (λ r hr. ap (λ v. F.ops.times v (entry F.ops S r c)) (u_is r hr)) ∙ t c h

    left : dot F.ops (length S.rows) blame (sum_at S) ≢ 0
    left z =
        K.row.1
        (row_left F S formed P i K.row.0
        ∙ sym (dot-multipliers F (length S.rows) S.width (entry F.ops S) P K.pivots (sum_at S) i K.row.0)
        ∙ sym (Σ-congr F (length S.rows) (λ r. F.ops.times (blame r) (sum_at S r)) (λ r. F.ops.times (multipliers F.ops (entry F.ops S) P i r) (sum_at S r))
        (λ r hr. ap (λ v. F.ops.times v (sum_at S r)) (u_multipliers r hr)))
        ∙ z)

    contradiction_laws : ContradictionLaws F.ops S (ran P (Some i) exchanges scout K (ending P (Some i) (now P (Some i) exchanges scout K))) blame
    contradiction_laws =
        let l = long P (Some i) exchanges scout K in
        let counted = K.count in
        record {
          blamed = (null, left);
          refuted = λ y ys. no_solution F (length S.rows) S.width (entry F.ops S) (sum_at S) blame null left y (SolvesAll-of_SatisfiesAll F S formed y ys);
          codes = λ r h. subst (λ v. v < F.ops.q) (sym (u_multipliers r h)) (multipliers_code P i r);
          told = ap (λ s. contradiction_case s (suc (length exchanges))) (sym l);
          questions = omega arith;
        }

    laws_of_contradiction : RunLaws F.ops S M from (ran P (Some i) exchanges scout K (ending P (Some i) (now P (Some i) exchanges scout K))) (choice f'.minutes) blame
    laws_of_contradiction =
        record {
          solved = λ e. absurd (omega arith);
          contradiction = λ _. contradiction_laws;
          answers = true_answers P (Some i) exchanges scout K (ending P (Some i) (now P (Some i) exchanges scout K)) (λ e. omega arith) own;
          pivots = found P (Some i) exchanges scout K (ending P (Some i) (now P (Some i) exchanges scout K));
        }

  -- every case
  laws_at : (P : Pivots) (row : Option ℕ) (exchanges : List Exchange) (scout : X) (K : Keeps (state P row exchanges) scout) (f f' : Findings) (t : Result (Option ℕ) Case) (o : Case) →
      Verifies F.ops S (question_of F.ops S P row) (M.answer scout S (question_of F.ops S P row)) t →
      continued F.ops S P row (question_of F.ops S P row) (now P row exchanges scout K) t ≡ end o →
      Writes o (now P row exchanges scout K) f f' → Laws P row exchanges scout K f' o
  laws_at P row exchanges scout K f f' (Err fault) o v e W =
      let same : failed_case (suc (length exchanges)) (side (question_of F.ops S P row)) fault ≡ o = cc in
      subst (Laws P row exchanges scout K f') same (failed_laws P row exchanges scout K f' fault v)
  laws_at P None exchanges scout K f f' (Ok None) o v e W =
      let same : ending P None (now P None exchanges scout K) ≡ o = cc in
      subst (Laws P None exchanges scout K f') same
      (laws_of_solved P exchanges scout K f f' v.1 (subst (TrueAnswer F.ops S (about_rows (x_of F.ops S P))) (sym v.0) v.1) (subst (λ o. Writes o (now P None exchanges scout K) f f') (sym same) W))
  laws_at P (Some i) exchanges scout K f f' (Ok None) o v e W =
      let same : ending P (Some i) (now P (Some i) exchanges scout K) ≡ o = cc in
      subst (Laws P (Some i) exchanges scout K f') same
      (laws_of_contradiction P i exchanges scout K f f' v.1 (subst (TrueAnswer F.ops S (about_columns (u_of F.ops S P i))) (sym v.0) v.1) (subst (λ o. Writes o (now P (Some i) exchanges scout K) f f') (sym same) W))
  laws_at P row exchanges scout K f f' (Ok (Some i)) o v e W =
      absurd (end_question o (named F.ops S P row (now P row exchanges scout K) i) (sym e))

  -- the laws of a run that has ended
  pub run_laws : (r : Ran X) (f f' : Findings) → whole_run F.ops S M from ≡ Some r → Writes r.outcome r.exchanges f f' → RunLaws F.ops S M from r (choice f'.minutes) (choice f'.blame)
  run_laws r f f' e W =
      let found = last_of (most_questions S) start from keeps_start (omega arith) in
      let last = found.2 in
      let equal : Some found.0 ≡ Some r = sym found.1 ∙ e in
      let same : found.0 ≡ r = cc in
      let is = sym same ∙ last.is in
      let q = next_question F.ops S last.st in
      let a = M.answer last.scout S q in
      subst (λ r. RunLaws F.ops S M from r (choice f'.minutes) (choice f'.blame)) (sym is)
      (laws_at last.st.pivots last.st.row last.st.exchanges last.scout last.keeps f f' (verified F.ops S q a) last.outcome (verifies F.ops S q a) last.ended (subst (λ r. Writes r.outcome r.exchanges f f') is W))

-- where a scout's answers are all true its settle does not fail
pub not_failed : {X : Type 0} (K : Operations) (S : System) (M : ScoutMeaning X) (from to : X) (f f' : Findings) (r : Result Outcome Refusal) →
    ((state : X) (q : Asked) → FalseAnswer K S q (M.answer state S q) → ⊥) → IfOk r (Settles K S M from to f f') → IfOk r (λ o. IsFailed (outcome_case o) → ⊥)
not_failed K S M from to f f' (Ok o) all_true s = λ failed. s.laws.answers.never_fails all_true (subst IsFailed s.outcome failed)
not_failed K S M from to f f' (Err e) all_true s = tt
