-- One question of a run, from the answer verified. Assumes nothing.
use Rattle.std.proofs.Common.{◌≡◌, ℕ, suc, List, length, Some, None, Ok, Err, Option, Result, sym, refl, ap, subst, ◌∙◌, arith}
use Rattle.std.proofs.lemmas.Option.{none-some}
use Rattle.field.specs.Operations.{Operations}
use Rattle.frame.proofs.Apart.{err_ok}
use Rattle.rows.specs.Systems.{System}
use Rattle.algebra.specs.Pivots.{Pivots}
use Rattle.solver.specs.declared.findings.Findings.{Findings}
use Rattle.solver.specs.declared.outcomes.Outcome.{Outcome}
use Rattle.solver.specs.Outcomes.{Case, outcome_case, failed_case, IsFailed}
use Rattle.solver.specs.Questions.{Asked, side, verified}
use Rattle.solver.specs.Scouts.{ScoutMeaning}
use Rattle.solver.specs.Runs.{Exchange, State, question, end, Writes, ending, named, question_of, continued}
use Rattle.solver.specs.Steps.Turns.{state, ended, exchanges_then, Put, Continues}

-- an answer verified, where the question has this number
abbrev pub failed_or : ℕ → Asked → Result (Option ℕ) Case → Result (Option ℕ) Case
failed_or number q (Ok a) = Ok a
failed_or number q (Err fault) = Err (failed_case number (side q) fault)

module _ {X : Type 0} (K : Operations) (S : System) (M : ScoutMeaning X) (P : Pivots) (row : Option ℕ) (exchanges : List Exchange) (from to : X) where
  abbrev q : Asked
  q = question_of K S P row

  abbrev now : List Exchange
  now = exchanges_then K S M (state P row exchanges) from

  -- a run that fails writes nothing
  fails : (o : Case) (f : Findings) → IsFailed o → Writes o now f f
  fails o f failed = record { minutes = λ e. absurd (omega arith); blame = λ e. absurd (omega arith); nothing = λ _. refl }

  -- how it goes on, by what the code answers
  module _ (number : ℕ) (counted : number ≡ suc (length exchanges)) where
    ends_failed : (t : Result (Option ℕ) Case) (o : Case) → Err o ≡ failed_or number q t → (continued K S P row q now t ≡ end o) × IsFailed o
    ends_failed (Err fault) o e =
        let same : failed_case number (side q) fault ≡ o = cc in
        (ap end (ap (λ n. failed_case n (side q) fault) (sym counted) ∙ same), subst IsFailed same refl)
    ends_failed (Ok b) o e = absurd (err_ok o b e)

    ends_none : (t : Result (Option ℕ) Case) → Ok None ≡ failed_or number q t → continued K S P row q now t ≡ end (ending P row now)
    ends_none (Err fault) e = absurd (err_ok (failed_case number (side q) fault) None (sym e))
    ends_none (Ok None) e = refl
    ends_none (Ok (Some i)) e = let z : ◌≡◌ {A = Option ℕ} None (Some i) = cc in absurd (none-some i z)

    goes_on : (t : Result (Option ℕ) Case) (i : ℕ) → Ok (Some i) ≡ failed_or number q t → continued K S P row q now t ≡ question (named K S P row now i)
    goes_on (Err fault) i e = absurd (err_ok (failed_case number (side q) fault) (Some i) (sym e))
    goes_on (Ok None) i e = let z : ◌≡◌ {A = Option ℕ} None (Some i) = cc in absurd (none-some i z)
    goes_on (Ok (Some j)) i e = let same : j ≡ i = cc in ap (λ i. question (named K S P row now i)) same

    -- the code put this question, g, and answers r
    pub continues : (g : Asked) → g ≡ q → to ≡ M.after from S g → (r : Result (Option ℕ) Case) → r ≡ failed_or number g (verified K S g (M.answer from S g)) → Continues K S M (state P row exchanges) from to r
    continues g same scout r is =
        let moved = scout ∙ ap (M.after from S) same in
        let t = verified K S q (M.answer from S q) in
        let answered = is ∙ ap (λ g. failed_or number g (verified K S g (M.answer from S g))) same in
        record {
          failed = λ o f e. let failed = ends_failed t o (sym e ∙ answered) in record { scout = moved; next = failed.0; writes = fails o f failed.1 };
          none = λ o f f' e ends writes. record { scout = moved; next = ends_none t (sym e ∙ answered) ∙ ap end (sym ends); writes = writes };
          place = λ i f e. record { scout = moved; next = goes_on t i (sym e ∙ answered); writes = refl };
        }

-- the code hands on how a false answer ends the run
pub put_failed : {X : Type 0} {K : Operations} {S : System} {M : ScoutMeaning X} {st : State} {from to : X} {f : Findings} {put : Result (Option ℕ) Outcome} (r : Result ℕ Outcome) (o : Outcome) →
    Continues K S M st from to (ended put) → put ≡ Err o → r ≡ Err o → Put K S M st from to f f (ended r)
put_failed {K = K} {S = S} {M = M} {st = st} {from = from} {to = to} {f = f} r o continues was is =
    subst (λ r. Put K S M st from to f f (ended r)) (sym is) (continues.failed (outcome_case o) f (ap ended was))

-- equal numbers of pivots and of questions
pub same_counts : (told : ℕ → ℕ → Case) (p p' q q' : ℕ) → p ≡ p' → q ≡ q' → told p q ≡ told p' q'
same_counts told p p' q q' e f = ap (λ p. told p q) e ∙ ap (told p') f
