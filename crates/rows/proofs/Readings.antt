-- What the reading calls tell. Assumes nothing.
use Rattle.std.proofs.Common.{◌≡◌, ℕ, zero, suc, ◌+◌, ◌<◌, List, [], ◌∷◌, get_or, drop, refl, add-one, take, not-suc-le-zero, le_of_suc-le-suc}
use Rattle.std.specs.List.{slice_get}
use Rattle.std.specs.Option.{MatchOption, option_and_then}
use Rattle.rows.specs.Systems.{Row, System, empty_row, row_at, term_of}

-- the rows of a list, as they are read
pub read_term : (S : System) (i k : ℕ) → term_of S i k ≡ slice_get (row_at S i).terms k
read_term S i k = walk S.rows i
  where
    walk : (rs : List Row) (i : ℕ) → option_and_then (λ r. slice_get r.terms k) (slice_get rs i) ≡ slice_get (get_or rs i empty_row).terms k
    walk [] i = refl
    walk (r ∷ rs) zero = refl
    walk (r ∷ rs) (suc i) = walk rs i

-- the next of the elements from k up to n
pub next_left : {X : Type 0} (xs : List X) (k n : ℕ) → k < n → MatchOption (slice_get xs k) ((drop k (take n xs) ≡ []) × (drop (k + 1) (take n xs) ≡ [])) (λ x. drop k (take n xs) ≡ x ∷ drop (k + 1) (take n xs))
next_left xs k zero h = absurd (not-suc-le-zero h)
next_left [] zero (suc n) h = (refl, refl)
next_left [] (suc k) (suc n) h = (refl, rw (add-one (suc k)) refl)
next_left (x ∷ xs) zero (suc n) h = refl
next_left {X = X} (x ∷ xs) (suc k) (suc n) h = let rest = next_left {X = X} xs k n (le_of_suc-le-suc h) in rw (add-one (suc k)) (rw (add-one k) at rest)
