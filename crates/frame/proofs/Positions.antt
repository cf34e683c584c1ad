-- Where no element passes a test. Assumes nothing.
use Rattle.std.proofs.Common.{◌≡◌, ℕ, zero, suc, ◌+◌, ◌<◌, Bool, true, false, cond, List, [], ◌∷◌, length, get_or, Some, None, Option, sym, refl, le_of_suc-le-suc, not-suc-le-zero, arith}
use Rattle.std.specs.List.{position_from}
use Rattle.std.proofs.lemmas.Option.{none-some}

stops : (b : Bool) (x : Option ℕ) (at : ℕ) → cond b (Some at) x ≡ None → (b ≡ false) × (x ≡ None)
stops true x at e = absurd (none-some at (sym e))
stops false x at e = (refl, e)

-- the search finds none just where every element, d past the end, fails the test
module _ {X : Type 0} (test : X → Bool) (d : X) where
  pub none_passes : (at : ℕ) (xs : List X) → position_from test at xs ≡ None → (k : ℕ) → k < length xs → test (get_or xs k d) ≡ false
  none_passes at [] e k h = absurd (not-suc-le-zero h)
  none_passes at (x ∷ xs) e zero h = (stops (test x) _ at e).0
  none_passes at (x ∷ xs) e (suc k) h = none_passes (at + 1) xs (stops (test x) _ at e).1 k (le_of_suc-le-suc h)

  pub none_found : (at : ℕ) (xs : List X) → ((k : ℕ) → k < length xs → test (get_or xs k d) ≡ false) → position_from test at xs ≡ None
  none_found at [] fail = refl
  none_found at (x ∷ xs) fail = rw (fail 0 (omega arith)) (none_found (at + 1) xs (λ k h. fail (suc k) (omega arith)))
