-- The exchange lemma. Assumes nothing.
use Rattle.std.proofs.Common.{◌≡◌, ℕ, zero, suc, ◌<◌, ◌≤◌, sym, refl, ap, ◌∙◌, arith}
use Rattle.field.specs.Laws.{Lawful}
use Rattle.field.proofs.FieldLemmas.{times_right}
use Rattle.algebra.specs.Vectors.{mul_vec, vec_mul}
use Rattle.algebra.specs.Spans.{Combination, InSpan, Independent}
use Rattle.algebra.specs.Profiles.{eliminate}
use Rattle.algebra.specs.Theorems.{SpanLaws}
use Rattle.algebra.proofs.Sums.{Σ-congr, Σ-mod}
use Rattle.algebra.proofs.Products.{dot-congr_mod, dot-mul_vec}
use Rattle.algebra.proofs.Spans.{coefficients, InSpan-self, InSpan-trans, InSpan-of_rows_at, not_InSpan-of_Independent}
use Rattle.algebra.proofs.Pivots.{InSpan-of_schur, count-le_columns}
use Rattle.algebra.proofs.Elimination.{with_row-ways, eliminate-Elimination}

module _ (F : Lawful) (m s r : ℕ) (X Y : ℕ → ℕ → ℕ) where
  open F.ops use {times as ◌⊗◌}

  infixl 70 ◌⊗◌
  -- where the coefficients of row i are a combination of those of the rows before it, so is row i
  InSpan-of_coefficients : (C : ℕ → ℕ → ℕ) (i : ℕ) → ((k : ℕ) → k < suc i → Combination F.ops m r X (C k) (Y k)) → InSpan F.ops r i C (C i) → InSpan F.ops m i Y (Y i)
  InSpan-of_coefficients C i made is =
      let d = is.0 in (
        d,
        λ j h.
            made i (omega arith) j h
            ∙ dot-congr_mod F r (C i) (vec_mul F.ops i d C) (λ l. X l j) (λ l hl. is.1 l hl ∙ sym (Σ-mod F i (λ k. d k ⊗ C k l)))
            ∙ sym (dot-mul_vec F i r d C (λ l. X l j))
            ∙ Σ-congr F i (λ k. d k ⊗ mul_vec F.ops r C (λ l. X l j) k) (λ k. d k ⊗ Y k j) (λ k hk. ap (λ z. d k ⊗ z) (sym (made k (omega arith) j h)) ∙ times_right F (d k) (Y k j)),
      )

  module _ (independent : Independent F.ops m s Y) (C : ℕ → ℕ → ℕ) (made : (k : ℕ) → k < s → Combination F.ops m r X (C k) (Y k)) where
    -- an elimination of the coefficients finds each row fresh
    count-all : (i : ℕ) → i ≤ s → (eliminate F.ops r C i).count ≡ i
    unfolding eliminate
    count-all zero h = refl
    count-all (suc i) h =
        let S = eliminate F.ops r C i in
        let E = eliminate-Elimination F r C i in
        with_row-ways F r C S i (λ T. T.count ≡ suc i)
        (λ stale. absurd
        (not_InSpan-of_Independent F m s i Y independent (omega arith)
        (InSpan-of_coefficients C i (λ k hk. made k (omega arith))
        (InSpan-of_rows_at F r S.count i S.row C (C i) E.pivots.rows_below (InSpan-of_schur F i r C S E.pivots i stale)))))
        (λ j hj some. ap suc (count-all i (omega arith)))

  -- independent rows within the span of r rows are at most r
  pub le-of_Independent : Independent F.ops m s Y → ((k : ℕ) → k < s → InSpan F.ops m r X (Y k)) → s ≤ r
  le-of_Independent independent spanned =
      let C = coefficients F m s r X Y spanned in
      let all = count-all independent C.0 C.1 s (omega arith) in
      let most = count-le_columns F s r C.0 (eliminate F.ops r C.0 s) (eliminate-Elimination F r C.0 s).pivots in
      omega arith

pub span_laws : (F : Lawful) → SpanLaws F.ops
span_laws F = record { own_row = InSpan-self F; trans = InSpan-trans F; independent = not_InSpan-of_Independent F; exchange = le-of_Independent F }
