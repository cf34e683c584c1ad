-- What a long enough work space is good for. Assumes nothing.
use Rattle.std.proofs.Common.{◌≡◌, ℕ, ◌≤◌, Ok, Err, Result, refl, ◌∙◌}
use Rattle.std.specs.Result.{IsOk}
use Rattle.std.proofs.lemmas.Bool.{le-ltb}
use Rattle.frame.specs.declared.refusals.Refusal.{Refusal}
use Rattle.frame.specs.Refusals.{refusal_case, refusal_only}
use Rattle.frame.proofs.Apart.{err_ok}
use Rattle.solver.specs.Laws.{settle_answer}

-- in it a settle is not refused
pub settle_accepted : {X : Type 0} (words : ℕ) (r : Result X Refusal) → refusal_only r ≡ settle_answer words → 8192 ≤ words → IsOk r
settle_accepted words (Ok o) answer long = refl
settle_accepted words (Err e) answer long = absurd (err_ok (refusal_case e) tt (answer ∙ rw (le-ltb words 8192 long) refl))
