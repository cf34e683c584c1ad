-- By the theorems. Assumes nothing.
use Rattle.std.proofs.Common.{◌≡◌, ℕ, ◌<◌, ◌%◌, refl, ap, ◌∙◌, List, [], ◌∷◌, length, slice_index, arith}
use Rattle.field.specs.Operations.{first_from, reciprocal, inverse}
use Rattle.field.specs.Sums.{Σ}
use Rattle.field.specs.Residues.{prime_field}
use Rattle.algebra.specs.Vectors.{δ, vec_mul, rows_at}
use Rattle.algebra.specs.Spans.{SolvesAll}
use Rattle.algebra.specs.Pivots.{PivotsOf, solution, multipliers}
use Rattle.algebra.specs.Profiles.{RankProfile, IndependentRows, LeastLongest, with_row, eliminate}
use Rattle.algebra.specs.Examples.{prime, after, three_rows, sums, contradictory}
use Rattle.algebra.proofs.Deltas.{below-suc}
use Rattle.algebra.proofs.Systems.{no_solution}
use Rattle.algebra.proofs.Pivots.{SolvesAll-unique, kernel_vector-null}
use Rattle.algebra.proofs.Elimination.{eliminate-Elimination, InSpan-of_all_pivots}
use Rattle.algebra.proofs.Profiles.{rank_profile-RankProfile, RankProfile-iff_LeastLongest}
use Rattle.algebra.proofs.examples.theorems_apply.Goals as goal

profile : RankProfile prime 3 2 three_rows (0 ∷ 2 ∷ [])
unfolding first_from reciprocal inverse Σ with_row eliminate
profile = rank_profile-RankProfile prime_field 3 2 three_rows

least_longest : LeastLongest prime 3 2 three_rows (0 ∷ 2 ∷ [])
least_longest = (RankProfile-iff_LeastLongest prime_field 3 2 three_rows (0 ∷ 2 ∷ [])).0 profile

pivots : PivotsOf prime 3 2 three_rows (after three_rows 3)
pivots = (eliminate-Elimination prime_field 2 three_rows 3).pivots

-- what holds at 0 and 1 holds below 2
below_two : (P : ℕ → Type 0) → P 0 → P 1 → (k : ℕ) → k < 2 → P k
below_two P first second = below-suc P 1 (below-suc P 0 (λ k h. absurd (omega arith)) first) second

-- two rows of the three that make 0 with a coefficient of 1 for the first
dependent : (ys : List ℕ) (c : ℕ) → length ys ≡ 2 → ((j : ℕ) → j < 2 → vec_mul prime 2 (slice_index (1 ∷ c ∷ [])) (rows_at three_rows (slice_index ys)) j ≡ 0) → IndependentRows prime 3 2 three_rows ys → ⊥
dependent ys c long null I =
    let null : (j : ℕ) → j < 2 → vec_mul prime (length ys) (slice_index (1 ∷ c ∷ [])) (rows_at three_rows (slice_index ys)) j ≡ 0 = rw (long) null in
    let one : 1 % 65521 ≡ 0 = I.independent (slice_index (1 ∷ c ∷ [])) null 0 (omega arith) in
    omega arith

pub returns : goal.returns
unfolding first_from reciprocal inverse Σ δ with_row eliminate
returns c =
    let S = after three_rows 3 in
    let solved : SolvesAll prime 3 2 three_rows sums (solution prime sums S) = below-suc _ 2 (below_two _ refl refl) refl in
    record {
      profile = profile;
      least_longest = least_longest;
      doubled = dependent (1 ∷ 0 ∷ []) 65519 refl (below_two _ refl refl);
      repeated = dependent (2 ∷ 2 ∷ []) 65520 refl (below_two _ refl refl);
      too_many = λ I. let most = least_longest.longest (2 ∷ 0 ∷ 1 ∷ []) I in omega arith;
      pivots = pivots;
      solved = solved;
      only = λ x xs.
          let same = SolvesAll-unique prime_field 3 2 three_rows S pivots refl sums x (solution prime sums S) xs solved in
          ap (λ a. a ∷ x 1 % 65521 ∷ []) (same 0 (omega arith)) ∙ ap (λ a. 65519 ∷ a ∷ []) (same 1 (omega arith));
      refuted = no_solution prime_field 3 2 three_rows contradictory (multipliers prime three_rows S 1) (below_two _ refl refl) (λ e. let z : ◌≡◌ {A = ℕ} 1 0 = e in omega arith);
      kernel =
          let E = eliminate-Elimination prime_field 2 three_rows 2 in
          kernel_vector-null prime_field 2 2 three_rows (after three_rows 2) E.pivots (InSpan-of_all_pivots prime_field 2 three_rows 2 (after three_rows 2) E) 1 (omega arith);
    }
