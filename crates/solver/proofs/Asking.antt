-- The values that a run's questions are about. Assumes nothing.
use Rattle.std.proofs.Common.{◌≡◌, ◌≢◌, ℕ, ◌<◌, ◌≤◌, ◌%◌, List, length, take, slice_index, Some, Option, sym, ap, subst, ◌∙◌, arith}
use Rattle.std.proofs.lemmas.List.{get_or-take, length-take-le}
use Rattle.field.specs.Laws.{Lawful}
use Rattle.field.proofs.FieldLemmas.{zero_difference}
use Rattle.rows.specs.Systems.{System, WellFormed}
use Rattle.rows.specs.Values.{choice, entry}
use Rattle.algebra.specs.Places.{Distinct, Outside}
use Rattle.algebra.specs.Vectors.{δ, mul_vec, unit_minus}
use Rattle.algebra.specs.Pivots.{Pivots, PivotsOf, row_coefficients, schur, solution, multipliers}
use Rattle.algebra.proofs.Sums.{Σ-congr, Σ-mod}
use Rattle.algebra.proofs.Pivots.{pivot_rows-Distinct, pivot_columns-Distinct, solution-Solves, vec_mul-multipliers}
use Rattle.solver.specs.Slices.{IsVector}
use Rattle.solver.specs.Steps.Vectors.{Begins}
use Rattle.rows.specs.Systems.{sum_at}
use Rattle.solver.specs.Questions.{about_rows, about_columns, value_at, TrueAnswer}
use Rattle.solver.specs.Runs.{x_of, u_of}
use Rattle.solver.proofs.Filling.{list_of_values, values_hold}
use Rattle.solver.proofs.Matrix.{row_value-is, mul_vec-congr}

-- the first places of a slice
pub taken_holds : (n m : ℕ) (f : ℕ → ℕ) (xs : List ℕ) → IsVector n f xs → m ≤ n → IsVector m f (take m xs)
taken_holds n m f xs H fits =
    record {
      long = length-take-le m xs (omega (arith, H.long));
      each = λ k h. get_or-take m xs k 0 h ∙ H.each k (omega arith);
    }

module _ (F : Lawful) (S : System) (formed : WellFormed S) where
  open F.ops use {plus as ◌⊕◌, times as ◌⊗◌, negative, q}

  infixl 60 ◌⊕◌
  infixl 70 ◌⊗◌
  abbrev A : ℕ → ℕ → ℕ
  A = entry F.ops S

  abbrev b : ℕ → ℕ
  b = sum_at S

  abbrev n : ℕ
  n = length S.rows

  abbrev m : ℕ
  m = S.width

  module _ (P : Pivots) where
    -- what x leaves of a row
    pub row_left : (i : ℕ) → i < n → value_at F.ops S (about_rows (x_of F.ops S P)) i ≡ b i ⊕ negative (mul_vec F.ops m A (solution F.ops b P) i)
    row_left i h =
        row_value-is F S formed (choice (x_of F.ops S P)) i h
        ∙ ap (λ w. b i ⊕ negative w) (mul_vec-congr F S formed (choice (x_of F.ops S P)) (solution F.ops b P) i (values_hold m (solution F.ops b P)).each)

    module _ (I : PivotsOf F.ops n m A P) where
      -- where that is not 0 the row is no pivot row
      pub row_outside : (i : ℕ) → i < n → value_at F.ops S (about_rows (x_of F.ops S P)) i ≢ 0 → Outside P.count P.row i
      row_outside i h some k hk e =
          some
          (row_left i h
          ∙ zero_difference F (b i) (mul_vec F.ops m A (solution F.ops b P) i)
          (sym (ap (λ r. b r % q) e)
          ∙ sym (solution-Solves F n m A P I b k hk)
          ∙ ap (mul_vec F.ops m A (solution F.ops b P)) e
          ∙ sym (Σ-mod F m (λ c. A i c ⊗ solution F.ops b P c))))

      -- what u makes of a column is the complement of the pivots
      pub column_left : (i j : ℕ) → i < n → value_at F.ops S (about_columns (u_of F.ops S P i)) j ≡ schur F.ops A P i j
      column_left i j h =
          Σ-congr F n (λ r. choice (u_of F.ops S P i) r ⊗ A r j) (λ r. multipliers F.ops A P i r ⊗ A r j) (λ r hr. ap (λ v. v ⊗ A r j) ((values_hold n (multipliers F.ops A P i)).each r hr))
          ∙ vec_mul-multipliers F n m A P I i j h

-- what the code hands over is what the question is
module _ (F : Lawful) (S : System) (formed : WellFormed S) (P : Pivots) (I : PivotsOf F.ops (length S.rows) S.width (entry F.ops S) P) where
  pub rows_asked : (xs : List ℕ) (m : ℕ) → m ≡ S.width → (Distinct P.count P.column → IsVector 64 (solution F.ops (sum_at S) P) xs) → about_rows (take m xs) ≡ about_rows (x_of F.ops S P)
  rows_asked xs m wide held =
      let few = formed.few_minutes in
      let H = held (pivot_columns-Distinct F (length S.rows) S.width (entry F.ops S) P I) in
      ap about_rows (ap (λ m. take m xs) wide ∙ list_of_values S.width (solution F.ops (sum_at S) P) (take S.width xs) (taken_holds 64 S.width (solution F.ops (sum_at S) P) xs H few))

  pub columns_asked : (i : ℕ) (z us : List ℕ) (n : ℕ) → n ≡ length S.rows → Outside P.count P.row i → Begins P.count (row_coefficients F.ops (entry F.ops S) P i) z →
      (Distinct P.count P.row → Outside P.count P.row i → IsVector 96 (unit_minus F.ops i P.count P.row (slice_index z)) us) → about_columns (take n us) ≡ about_columns (u_of F.ops S P i)
  columns_asked i z us n many out zs held =
      let few = formed.few_rows in
      let H = held (pivot_rows-Distinct F (length S.rows) S.width (entry F.ops S) P I) out in
      let u = multipliers F.ops (entry F.ops S) P i in
      let hands : IsVector 96 u us = record {
        long = H.long;
        each = λ j h.
            H.each j h
            ∙ ap (λ p. F.ops.plus (δ i j) (F.ops.negative p))
            (Σ-congr F P.count (λ k. F.ops.times (slice_index z k) (δ (P.row k) j)) (λ k. F.ops.times (row_coefficients F.ops (entry F.ops S) P i k) (δ (P.row k) j)) (λ k hk. ap (λ v. F.ops.times v (δ (P.row k) j)) (zs k hk)));
      } in
      ap about_columns (ap (λ n. take n us) many ∙ list_of_values (length S.rows) u (take (length S.rows) us) (taken_holds 96 (length S.rows) u us hands few))

  -- what is known of a row and of a column that are named
  pub row_named : (xs : List ℕ) (m : ℕ) → m ≡ S.width → (Distinct P.count P.column → IsVector 64 (solution F.ops (sum_at S) P) xs) →
      (a : Option ℕ) (i : ℕ) → TrueAnswer F.ops S (about_rows (take m xs)) a → a ≡ Some i → (i < length S.rows) × Outside P.count P.row i
  row_named xs m wide held a i true_answer e =
      let t = subst (λ q. TrueAnswer F.ops S q (Some i)) (rows_asked xs m wide held) (subst (TrueAnswer F.ops S (about_rows (take m xs))) e true_answer) in
      (t.0, row_outside F S formed P I i t.0 t.1)

  pub column_named : (i : ℕ) (z us : List ℕ) (n : ℕ) → n ≡ length S.rows → Outside P.count P.row i → Begins P.count (row_coefficients F.ops (entry F.ops S) P i) z →
      (Distinct P.count P.row → Outside P.count P.row i → IsVector 96 (unit_minus F.ops i P.count P.row (slice_index z)) us) → i < length S.rows →
      (a : Option ℕ) (j : ℕ) → TrueAnswer F.ops S (about_columns (take n us)) a → a ≡ Some j → (j < S.width) × (schur F.ops (entry F.ops S) P i j ≢ 0)
  column_named i z us n many out zs held there a j true_answer e =
      let t = subst (λ q. TrueAnswer F.ops S q (Some j)) (columns_asked i z us n many out zs held) (subst (TrueAnswer F.ops S (about_columns (take n us))) e true_answer) in
      (t.0, λ z. t.1 (column_left F S formed P I i j there ∙ z))
