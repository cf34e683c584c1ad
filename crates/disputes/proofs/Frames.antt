-- What is shown after a take and a settle satisfies the frame. Assumes nothing.
use Rattle.std.proofs.Common.{◌≡◌, ℕ, ◌<◌, List, ◌∷◌, Some, Ok, Err, Result, IfOk, refl, sym, subst, arith}
use Rattle.field.specs.Operations.{Operations}
use Rattle.frame.specs.Refusals.{RefusalCase}
use Rattle.rows.specs.Systems.{Row}
use Rattle.rows.specs.Values.{Satisfies}
use Rattle.solver.specs.Outcomes.{Case}
use Rattle.solver.specs.Runs.{Exchange}
use Rattle.receiver.specs.Contents.{Contents, shown_at}
use Rattle.receiver.specs.Uses.{Call, Use, take_call, settle_call}
use Rattle.receiver.specs.Laws.{IsChoice, Safe, KeepsSafe}
use Rattle.disputes.specs.Clients.{WasUsed, ShowsWith}

-- one call more
pub used : (K : Operations) (call : Call) (b b' : Contents) → KeepsSafe K call b b' → WasUsed K b → WasUsed K b'
used K call b b' keeps was = (was.0, call ∷ was.1, (keeps was.0 was.1 was.2).0)

module _ (K : Operations) (b taken settled : Contents) (r : Row) (n : ℕ) (take : KeepsSafe K (take_call r (Ok n)) b taken) (asked : List Exchange) (answer : Result Case RefusalCase) (settle : KeepsSafe K (settle_call asked answer) taken settled) where
  abbrev both : Use → Use
  both calls = settle_call asked answer ∷ take_call r (Ok n) ∷ calls

  safe_shows : (m : ℕ) (calls : Use) → Safe K m (both calls) settled → (c code : ℕ) → shown_at settled c ≡ Some code → (x : ℕ → ℕ) × IsChoice K m x × ((d : ℕ) → d < m → shown_at settled d ≡ Some (x d)) × Satisfies K r x
  safe_shows m calls safe c code e =
      let fits = safe.shown c code e in
      (fits.0, fits.1, fits.2, fits.3.taken (record { number = n; row = r }) (0, omega arith, refl))

  pub shows : WasUsed K b → ShowsWith K settled r
  shows was c code e =
      let after = settle was.0 (take_call r (Ok n) ∷ was.1) (take was.0 was.1 was.2).0 in
      subst (λ m. (x : ℕ → ℕ) × IsChoice K m x × ((d : ℕ) → d < m → shown_at settled d ≡ Some (x d)) × Satisfies K r x) (sym after.0.width)
      (safe_shows was.0 was.1 after.1 c code e)

-- whatever is so is so of an accepted call
pub if_ok : {X E : Type 0} (P : Type 0) (answer : Result X E) → P → IfOk answer (λ x. P)
if_ok P (Ok x) p = p
if_ok P (Err e) p = tt
