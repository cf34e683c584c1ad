-- A run of turns. Assumes nothing.
use Rattle.std.proofs.Common.{◌≡◌, ℕ, suc, ◌+◌, ◌-◌, ◌≤◌, List, [], length, None, Ok, Err, sym, refl, ap, subst, ◌∙◌, arith}
use Rattle.field.specs.Operations.{Operations}
use Rattle.field.specs.Laws.{Lawful}
use Rattle.rows.specs.Systems.{System, WellFormed}
use Rattle.rows.specs.Values.{entry}
use Rattle.algebra.specs.Pivots.{Pivots, no_pivots}
use Rattle.algebra.proofs.Growth.{no_pivots-PivotsOf}
use Rattle.algebra.proofs.Pivots.{count-le_columns}
use Rattle.solver.specs.declared.findings.Findings.{Findings}
use Rattle.solver.specs.declared.outcomes.Outcome.{Outcome}
use Rattle.solver.specs.Steps.Pivots.{PivotsOfRows}
use Rattle.solver.specs.Steps.Pivots.{SamePivots}
use Rattle.solver.specs.Outcomes.{outcome_case}
use Rattle.solver.specs.Scouts.{ScoutMeaning}
use Rattle.solver.specs.Runs.{Exchange, Writes, most_questions, run, whole_run}
use Rattle.solver.specs.Steps.Turns.{state, Turned}
use Rattle.solver.specs.Laws.{Settles}
use Rattle.solver.proofs.Same.{PivotsOf-same}
use Rattle.solver.proofs.Running.{run-same}
use Rattle.solver.proofs.RunLaws.{run_laws}

-- between two turns: there are pivots, the rest of the whole run is ahead, and nothing is written yet
pub record Turning {X : Type 0} (K : Operations) (S : System) (M : ScoutMeaning X) (from : X) (f : Findings) (P : Pivots) (now : X) (f' : Findings) : Type 0 where
  pub pivots : PivotsOfRows K S P
  pub exchanges : List Exchange
  pub left : ℕ
  pub many : length exchanges ≡ P.count + P.count
  pub rest : whole_run K S M from ≡ run K S M left (state P None exchanges) now
  pub enough : most_questions S ≤ left + length exchanges
  pub kept : f' ≡ f

module _ {X : Type 0} (F : Lawful) (S : System) (formed : WellFormed S) (M : ScoutMeaning X) (from : X) (f : Findings) where
  -- pivots that count none
  none_same : (P : Pivots) → P.count ≡ 0 → SamePivots P no_pivots
  none_same P e = record { count = e; row = λ k h. absurd (omega arith); column = λ k h. absurd (omega arith); inverse = λ k l h. absurd (omega arith) }

  pub turning_start : (P : Pivots) → P.count ≡ 0 → Turning F.ops S M from f P from f
  turning_start P e =
      record {
        pivots = PivotsOf-same F (entry F.ops S) P no_pivots (none_same P e) (length S.rows) S.width (no_pivots-PivotsOf F (length S.rows) S.width (entry F.ops S));
        exchanges = [];
        left = most_questions S;
        many = omega (arith, e);
        rest = sym (run-same F S M (most_questions S) P no_pivots None [] from (none_same P e));
        enough = omega arith;
        kept = refl;
      }

  -- a turn more, and what it leaves
  module _ (P : Pivots) (now : X) (f' : Findings) (T : Turning F.ops S M from f P now f') (P' : Pivots) (to : X) (f'' : Findings) where
    abbrev later : ℕ
    later = T.left - 2

    two_left : T.left ≡ suc (suc later)
    two_left = let few = count-le_columns F (length S.rows) S.width (entry F.ops S) P T.pivots in let e = T.enough in let m = T.many in omega arith

    rest_now : whole_run F.ops S M from ≡ run F.ops S M (suc (suc later)) (state P None T.exchanges) now
    rest_now = T.rest ∙ ap (λ left. run F.ops S M left (state P None T.exchanges) now) two_left

    pub turning_next : Turned F.ops S M P P' now to f' f'' (Ok tt) → PivotsOfRows F.ops S P' × (P'.count ≡ suc P.count) → Turning F.ops S M from f P' to f''
    turning_next turned grown =
        let t = turned T.exchanges later T.many in
        record {
          pivots = grown.0;
          exchanges = t.0;
          left = later;
          many = t.1;
          rest = rest_now ∙ t.2;
          enough = let e = T.enough in let m = T.many in let m' = t.1 in let more = grown.1 in let l = two_left in omega arith;
          kept = t.3 ∙ T.kept;
        }

    pub turning_end : (o : Outcome) → Turned F.ops S M P P' now to f' f'' (Err (outcome_case o)) → Settles F.ops S M from to f f'' o
    turning_end o turned =
        let t = turned T.exchanges later T.many in
        let defined = rest_now ∙ t.1 in
        let writes = subst (λ o. Writes o t.0.exchanges f f'') t.2 (subst (λ f. Writes (outcome_case o) t.0.exchanges f f'') T.kept t.4) in
        record { ran = t.0; defined = defined; outcome = t.2; scout = t.3; writes = writes; laws = run_laws F S formed M from t.0 f f'' defined writes }
