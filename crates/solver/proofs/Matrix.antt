-- Rows as a matrix and sums. Assumes nothing.
use Rattle.std.proofs.Common.{◌≡◌, ◌≢◌, ℕ, suc, ◌%◌, ◌<◌, List, [], ◌∷◌, length, sym, refl, ap, ◌∙◌, inl, inr, arith}
use Rattle.std.proofs.lemmas.Bool.{cases_eq, eq-eqb, ne_eqb}
use Rattle.field.specs.Laws.{Lawful}
use Rattle.field.specs.Sums.{Σ}
use Rattle.field.proofs.FieldLemmas.{ring, times-mod}
use Rattle.frame.specs.declared.terms.Term.{Term}
use Rattle.frame.specs.Frames.{minute_at}
use Rattle.rows.specs.Systems.{System, row_at, WellFormed}
use Rattle.rows.specs.Values.{weight_for, weighted, entry, row_value, SatisfiesAll}
use Rattle.algebra.specs.Vectors.{δ, mul_vec}
use Rattle.algebra.specs.Spans.{SolvesAll}
use Rattle.algebra.proofs.Deltas.{δ-self, δ-ne}
use Rattle.algebra.proofs.Sums.{Σ-congr, Σ-plus, Σ-of_zero, Σ-δ}
use Rattle.rows.specs.Systems.{sum_at}
use Rattle.solver.proofs.AddedRows.{Without, weight_without}

weight_first : (t : Term) (ts : List Term) → weight_for (t ∷ ts) t.minute ≡ t.weight
weight_first t ts = rw (eq-eqb t.minute t.minute refl) refl

weight_later : (t : Term) (ts : List Term) (c : ℕ) → t.minute ≢ c → weight_for (t ∷ ts) c ≡ weight_for ts c
weight_later t ts c other = rw (ne_eqb t.minute c other) refl

module _ (F : Lawful) where
  open F.ops use {plus as ◌⊕◌, times as ◌⊗◌, negative, q}

  infixl 60 ◌⊕◌
  infixl 70 ◌⊗◌
  -- terms whose minutes rise and are below m, as a row of a matrix
  module _ (m : ℕ) (x : ℕ → ℕ) where
    abbrev product : List Term → ℕ → ℕ
    product ts c = (weight_for ts c % q) ⊗ x c

    -- a term more adds its own product, at its minute
    more : (t : Term) (ts : List Term) → Without ts t.minute → (c : ℕ) → product (t ∷ ts) c ≡ (t.weight ⊗ x c) ⊗ δ t.minute c ⊕ product ts c
    more t ts none c =
        let own = λ (c : ℕ). t.weight ⊗ x c in
        let one : (t.weight % q) ⊗ x c ≡ own c ⊗ 1 ⊕ (0 % q) ⊗ x c = simp ring in
        let none_of : (weight_for ts c % q) ⊗ x c ≡ own c ⊗ 0 ⊕ (weight_for ts c % q) ⊗ x c = simp ring in
        elim (cases_eq t.minute c) [
          | inl e ↦
              ap (λ w. (w % q) ⊗ x c) (ap (weight_for (t ∷ ts)) (sym e) ∙ weight_first t ts)
              ∙ one
              ∙ ap (λ d. own c ⊗ d ⊕ (0 % q) ⊗ x c) (sym (ap (δ t.minute) (sym e) ∙ δ-self t.minute))
              ∙ ap (λ w. own c ⊗ δ t.minute c ⊕ (w % q) ⊗ x c) (sym (ap (weight_for ts) (sym e) ∙ weight_without ts t.minute none))
          | inr other ↦
              ap (λ w. (w % q) ⊗ x c) (weight_later t ts c other)
              ∙ none_of
              ∙ ap (λ d. own c ⊗ d ⊕ product ts c) (sym (δ-ne t.minute c other))
        ]

    pub weighted-Σ : (ts : List Term) → ((k : ℕ) → k < length ts → minute_at ts k < m) → ((j k : ℕ) → j < k → k < length ts → minute_at ts j < minute_at ts k) →
        weighted F.ops ts x ≡ Σ F.ops m (product ts)
    unfolding weighted
    weighted-Σ [] below rising = sym (Σ-of_zero F m (product []) (λ c h. (simp ring)))
    weighted-Σ (t ∷ ts) below rising =
        let own = λ (c : ℕ). t.weight ⊗ x c in
        let none : Without ts t.minute = λ k h e. let up = rising 0 (suc k) (omega arith) (omega arith) in omega arith in
        ap (λ w. t.weight ⊗ x t.minute ⊕ w) (weighted-Σ ts (λ k h. below (suc k) (omega arith)) (λ j k l h. rising (suc j) (suc k) (omega arith) (omega arith)))
        ∙ ap (λ w. w ⊕ Σ F.ops m (product ts)) (sym (Σ-δ F m t.minute own (below 0 (omega arith)) ∙ times-mod F t.weight (x t.minute)))
        ∙ sym (Σ-plus F m (λ c. own c ⊗ δ t.minute c) (product ts))
        ∙ Σ-congr F m (λ c. own c ⊗ δ t.minute c ⊕ product ts c) (product (t ∷ ts)) (λ c h. sym (more t ts none c))

module _ (F : Lawful) (S : System) (formed : WellFormed S) where
  open F.ops use {plus as ◌⊕◌, times as ◌⊗◌, negative}

  infixl 60 ◌⊕◌
  infixl 70 ◌⊗◌
  abbrev A : ℕ → ℕ → ℕ
  A = entry F.ops S

  -- a row's weighted sum is the row of the matrix times x
  pub weighted-mul_vec : (x : ℕ → ℕ) (i : ℕ) → i < length S.rows → weighted F.ops (row_at S i).terms x ≡ mul_vec F.ops S.width A x i
  weighted-mul_vec x i h = let r = formed.each i h in weighted-Σ F S.width x (row_at S i).terms r.below r.rising

  pub row_value-is : (x : ℕ → ℕ) (i : ℕ) → i < length S.rows → row_value F.ops (row_at S i) x ≡ sum_at S i ⊕ negative (mul_vec F.ops S.width A x i)
  row_value-is x i h = ap (λ w. sum_at S i ⊕ negative w) (weighted-mul_vec x i h)

  -- x satisfies the rows just where it solves the system
  pub SolvesAll-of_SatisfiesAll : (x : ℕ → ℕ) → SatisfiesAll F.ops S x → SolvesAll F.ops (length S.rows) S.width A (sum_at S) x
  SolvesAll-of_SatisfiesAll x xs i h = sym (weighted-mul_vec x i h) ∙ xs i h

  -- what x is beyond the width does not matter
  pub mul_vec-congr : (x y : ℕ → ℕ) (i : ℕ) → ((c : ℕ) → c < S.width → x c ≡ y c) → mul_vec F.ops S.width A x i ≡ mul_vec F.ops S.width A y i
  mul_vec-congr x y i same = Σ-congr F S.width (λ c. A i c ⊗ x c) (λ c. A i c ⊗ y c) (λ c h. ap (λ v. A i c ⊗ v) (same c h))

  pub SatisfiesAll-congr : (x y : ℕ → ℕ) → ((c : ℕ) → c < S.width → x c ≡ y c) → SatisfiesAll F.ops S x → SatisfiesAll F.ops S y
  SatisfiesAll-congr x y same xs i h =
      weighted-mul_vec y i h
      ∙ sym (mul_vec-congr x y i same)
      ∙ sym (weighted-mul_vec x i h)
      ∙ xs i h
