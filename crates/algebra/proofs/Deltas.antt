-- The entries of the identity matrix, and functions with one value more. Assumes nothing.
use Rattle.std.proofs.Common.{◌≡◌, ℕ, suc, ◌<◌, ◌≢◌, sym, refl, ap, ◌∙◌, inl, inr, arith}
use Rattle.std.proofs.lemmas.Bool.{cases_eq, eq-eqb, ne_eqb}
use borrow.Author.Count.{below_more}
use Rattle.algebra.specs.Vectors.{δ, extend}

pub δ-self : (k : ℕ) → δ k k ≡ 1
unfolding δ
δ-self k = rw (eq-eqb k k refl)

pub δ-ne : (k l : ℕ) → k ≢ l → δ k l ≡ 0
unfolding δ
δ-ne k l h = rw (ne_eqb k l h)

pub δ-comm : (k l : ℕ) → δ k l ≡ δ l k
δ-comm k l =
    elim (cases_eq k l) [
      | inl e ↦ ap (λ z. δ k z) (sym e) ∙ ap (λ z. δ z k) e
      | inr h ↦ δ-ne k l h ∙ sym (δ-ne l k (λ e. h (sym e)))
    ]

pub eq-of_δ : (k l : ℕ) → δ k l ≡ 1 → k ≡ l
eq-of_δ k l e =
    elim (cases_eq k l) [
      | inl same ↦ same
      | inr n ↦ let none = δ-ne k l n in absurd (omega arith)
    ]

module _ {X : Type 0} (s : ℕ) (f : ℕ → X) (y : X) where
  pub extend-last : extend s f y s ≡ y
  extend-last = rw (eq-eqb s s refl)

  pub extend-other : (k : ℕ) → k ≢ s → extend s f y k ≡ f k
  extend-other k h = rw (ne_eqb k s h)

  pub extend-below : (k : ℕ) → k < s → extend s f y k ≡ f k
  extend-below k h = extend-other k (omega arith)

-- below suc s: below s, or s
pub below-suc : (P : ℕ → Type 0) (s : ℕ) → ((k : ℕ) → k < s → P k) → P s → (k : ℕ) → k < suc s → P k
below-suc P s below last k h = below_more P s below last k (omega arith)
