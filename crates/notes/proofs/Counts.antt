-- How many minutes are noted. Assumes nothing.
use Rattle.std.proofs.Common.{◌≡◌, ◌≢◌, ℕ, zero, suc, ◌+◌, ◌<◌, ◌≤◌, List, [], ◌∷◌, length, get_or, Some, None, Option, slice_set, sym, refl, ap, ◌∙◌, inl, inr, le_of_suc-le-suc, not-suc-le-zero, length-set, arith}
use Rattle.std.specs.List.{All, AllPairs}
use Rattle.std.proofs.lemmas.Bool.{cases_eq}
use Rattle.std.proofs.lemmas.List.{get_or-set_other}
use Rattle.std.proofs.lemmas.Option.{none-some}
use Rattle.notes.specs.Notes.{noted_code, noted_count}

-- what is noted is below m
abbrev pub NotedBelow : ℕ → List (Option ℕ) → Type 0
NotedBelow m codes = (c code : ℕ) → noted_code codes c ≡ Some code → c < m

-- so no more than m are noted
pub count_at_most : (m : ℕ) (codes : List (Option ℕ)) → NotedBelow m codes → noted_count codes ≤ m
count_at_most m [] below = omega arith
count_at_most zero (Some k ∷ codes) below = absurd (not-suc-le-zero (below 0 k refl))
count_at_most zero (None ∷ codes) below = count_at_most zero codes (λ c code e. absurd (not-suc-le-zero (below (suc c) code e)))
count_at_most (suc m) (Some k ∷ codes) below =
    let rest = count_at_most m codes (λ c code e. le_of_suc-le-suc (below (suc c) code e)) in
    omega arith
count_at_most (suc m) (None ∷ codes) below =
    let rest = count_at_most m codes (λ c code e. le_of_suc-le-suc (below (suc c) code e)) in
    omega arith

-- a note more
pub count-set : (codes : List (Option ℕ)) (c code : ℕ) → c < length codes → noted_code codes c ≡ None → noted_count (slice_set codes c (Some code)) ≡ suc (noted_count codes)
count-set [] c code h e = absurd (not-suc-le-zero h)
count-set (None ∷ codes) zero code h e = refl
count-set (Some k ∷ codes) zero code h e = absurd (none-some k (sym e))
count-set (None ∷ codes) (suc c) code h e = count-set codes c code (le_of_suc-le-suc h) e
count-set (Some k ∷ codes) (suc c) code h e = ap suc (count-set codes c code (le_of_suc-le-suc h) e)

-- different minutes below m, none of which is noted, are as many as are free at most
module _ (m : ℕ) where
  below_set : (codes : List (Option ℕ)) (d code : ℕ) → d < m → NotedBelow m codes → NotedBelow m (slice_set codes d (Some code))
  below_set codes d code h below c k e =
      elim (cases_eq c d) [
        | inl same ↦ omega arith
        | inr other ↦ below c k (sym (get_or-set_other codes d c (Some code) None other) ∙ e)
      ]

  pub free_at_most : (columns : List ℕ) (codes : List (Option ℕ)) → m ≤ length codes → NotedBelow m codes → All (λ c. c < m) columns → AllPairs (λ c d. c ≢ d) columns → All (λ c. noted_code codes c ≡ None) columns → length columns + noted_count codes ≤ m
  free_at_most [] codes long below inside differ free = let most = count_at_most m codes below in omega arith
  free_at_most (c ∷ columns) codes long below inside differ free =
      let more = slice_set codes c (Some 0) in
      let there : c < m = inside 0 0 (omega arith) in
      let counted = count-set codes c 0 (omega arith) (free 0 0 (omega arith)) in
      let same_length = length-set codes c (Some 0) in
      let rest =
      free_at_most columns more (omega arith) (below_set codes c 0 there below)
      (λ k d h. inside (suc k) d (omega arith))
      (λ j k d l h. differ (suc j) (suc k) d (omega arith) (omega arith))
      (λ k d h.
      let apart : get_or columns k d ≢ c = λ e. differ 0 (suc k) d (omega arith) (omega arith) (sym e) in
      get_or-set_other codes c (get_or columns k d) (Some 0) None apart ∙ free (suc k) d (omega arith)) in
      omega arith
