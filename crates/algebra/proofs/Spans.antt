-- Spans and independence. Assumes nothing.
use Rattle.std.proofs.Common.{◌≡◌, ℕ, ◌%◌, ◌<◌, sym, ap, subst, ◌∙◌, inl, inr, arith}
use Rattle.std.proofs.lemmas.Bool.{cases_lt}
use Rattle.field.specs.Laws.{Lawful}
use Rattle.field.proofs.FieldLemmas.{one-mod-q, times_right, zero_difference}
use Rattle.algebra.specs.Places.{Below}
use Rattle.algebra.specs.Vectors.{δ, mul_vec, vec_mul, rows_at, unit_minus}
use Rattle.algebra.specs.Spans.{Combination, InSpan, Independent}
use Rattle.algebra.proofs.Sums.{Σ-congr, Σ-mod, Σ-δ, unit_minus-own}
use Rattle.algebra.proofs.Products.{dot_comm, vec_mul-congr, dot-mul_vec, dot-unit_minus}

module _ (F : Lawful) (m : ℕ) where
  open F.ops use {times as ◌⊗◌, q}

  infixl 70 ◌⊗◌
  -- the combinations of many rows as one matrix of coefficients
  pub coefficients : (s r : ℕ) (X Y : ℕ → ℕ → ℕ) → ((k : ℕ) → k < s → InSpan F.ops m r X (Y k)) → (C : ℕ → ℕ → ℕ) × ((k : ℕ) → k < s → Combination F.ops m r X (C k) (Y k))
  coefficients s r X Y spanned =
      let chosen : (k : ℕ) → (c : ℕ → ℕ) × (k < s → Combination F.ops m r X c (Y k)) =
      λ k.
      elim (cases_lt k s) [
        | inl h ↦ ((spanned k h).0, λ _. (spanned k h).1)
        | inr h ↦ (λ _. 0, λ below. absurd (omega arith))
      ] in
      (λ k. (chosen k).0, λ k h. (chosen k).1 h)

  pub InSpan-self : (s k : ℕ) (R : ℕ → ℕ → ℕ) → k < s → InSpan F.ops m s R (R k)
  InSpan-self s k R h = (δ k, λ j _. sym (dot_comm F s (δ k) (λ l. R l j) ∙ Σ-δ F s k (λ l. R l j) h))

  pub InSpan-trans : (s r : ℕ) (R X : ℕ → ℕ → ℕ) (x : ℕ → ℕ) → InSpan F.ops m s R x → ((k : ℕ) → k < s → InSpan F.ops m r X (R k)) → InSpan F.ops m r X x
  InSpan-trans s r R X x is spanned =
      let C = coefficients s r X R spanned in (
        vec_mul F.ops s is.0 C.0,
        λ j h.
            is.1 j h
            ∙ Σ-congr F s (λ k. is.0 k ⊗ R k j) (λ k. is.0 k ⊗ mul_vec F.ops r C.0 (λ l. X l j) k) (λ k below. sym (times_right F (is.0 k) (R k j)) ∙ ap (λ z. is.0 k ⊗ z) (C.1 k below j h))
            ∙ dot-mul_vec F s r is.0 C.0 (λ l. X l j),
      )

  -- rows among the first n of A span no more than these
  pub InSpan-of_rows_at : (s n : ℕ) (P : ℕ → ℕ) (A : ℕ → ℕ → ℕ) (x : ℕ → ℕ) → Below s P n → InSpan F.ops m s (rows_at A P) x → InSpan F.ops m n A x
  InSpan-of_rows_at s n P A x below is = InSpan-trans s n (rows_at A P) A x is (λ k h. InSpan-self n (P k) A (below k h))

  -- equal rows
  pub Independent-congr : (s t : ℕ) (R Q : ℕ → ℕ → ℕ) → s ≡ t → ((k : ℕ) → k < s → (j : ℕ) → R k j ≡ Q k j) → Independent F.ops m s R → Independent F.ops m t Q
  Independent-congr s t R Q e same independent =
      subst (λ t. Independent F.ops m t Q) e (λ c none. independent c (λ j h. vec_mul-congr F s c R Q same j ∙ none j h))

  pub InSpan-congr : (s t : ℕ) (R Q : ℕ → ℕ → ℕ) (x : ℕ → ℕ) → s ≡ t → ((k : ℕ) → k < s → (j : ℕ) → R k j ≡ Q k j) → InSpan F.ops m s R x → InSpan F.ops m t Q x
  InSpan-congr s t R Q x e same is =
      subst (λ t. InSpan F.ops m t Q x) e (is.0, λ j h. is.1 j h ∙ vec_mul-congr F s is.0 R Q same j)

  -- of independent rows none is a combination of those before it
  pub not_InSpan-of_Independent : (s k : ℕ) (R : ℕ → ℕ → ℕ) → Independent F.ops m s R → k < s → InSpan F.ops m k R (R k) → ⊥
  not_InSpan-of_Independent s k R independent h is =
      let own = λ (r : ℕ). r in
      let u = unit_minus F.ops k k own is.0 in
      let none = independent u (λ j hj. dot-unit_minus F s k k own is.0 (λ r. R r j) h (λ r below. omega arith) ∙ zero_difference F (R k j) (vec_mul F.ops k is.0 R j) (is.1 j hj ∙ sym (Σ-mod F k (λ r. is.0 r ⊗ R r j)))) k h in
      let one : u k % q ≡ 1 = ap (λ x. x % q) (unit_minus-own F k k own is.0 (λ r below. omega arith)) ∙ one-mod-q F in
      omega arith
