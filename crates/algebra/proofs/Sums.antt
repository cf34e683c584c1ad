-- Sums in a field. Assumes nothing.
use Rattle.std.proofs.Common.{◌≡◌, ℕ, zero, suc, ◌%◌, ◌<◌, ◌≢◌, sym, refl, ap, ◌∙◌, inl, inr, mod-eq_of_lt, arith}
use Rattle.std.proofs.lemmas.Bool.{cases_eq}
use Rattle.field.specs.Laws.{Lawful}
use Rattle.field.specs.Sums.{Σ}
use Rattle.field.proofs.FieldLemmas.{ring, plus_right, times_right, times-zero, zero-mod-q}
use Rattle.algebra.specs.Places.{Below, Distinct, Outside}
use Rattle.algebra.specs.Vectors.{δ, place, unit_minus}
use Rattle.algebra.specs.Theorems.{SumLaws}
use Rattle.algebra.proofs.Deltas.{δ-self, δ-ne}

module _ (F : Lawful) where
  open F.ops use {plus as ◌⊕◌, times as ◌⊗◌, negative, q}

  infixl 60 ◌⊕◌
  infixl 70 ◌⊗◌
  pub Σ-zero : (f : ℕ → ℕ) → Σ F.ops 0 f ≡ 0
  unfolding Σ
  Σ-zero f = refl

  pub Σ-suc : (n : ℕ) (f : ℕ → ℕ) → Σ F.ops (suc n) f ≡ Σ F.ops n f ⊕ f n
  unfolding Σ
  Σ-suc n f = refl

  pub Σ-code : (n : ℕ) (f : ℕ → ℕ) → Σ F.ops n f < q
  Σ-code zero f = let h = F.two_codes in rw (Σ-zero f) (omega arith)
  Σ-code (suc n) f = rw (Σ-suc n f) (F.plus_code (Σ F.ops n f) (f n))

  pub Σ-mod : (n : ℕ) (f : ℕ → ℕ) → Σ F.ops n f % q ≡ Σ F.ops n f
  Σ-mod n f = mod-eq_of_lt (Σ-code n f)

  -- summands count by their remainders
  pub Σ-congr_mod : (n : ℕ) (f g : ℕ → ℕ) → ((k : ℕ) → k < n → f k % q ≡ g k % q) → Σ F.ops n f ≡ Σ F.ops n g
  Σ-congr_mod zero f g same = Σ-zero f ∙ sym (Σ-zero g)
  Σ-congr_mod (suc n) f g same =
      Σ-suc n f
      ∙ sym (plus_right F (Σ F.ops n f) (f n))
      ∙ ap (λ x. Σ F.ops n f ⊕ x) (same n (omega arith))
      ∙ plus_right F (Σ F.ops n f) (g n)
      ∙ ap (λ x. x ⊕ g n) (Σ-congr_mod n f g (λ k h. same k (omega arith)))
      ∙ sym (Σ-suc n g)

  pub Σ-congr : (n : ℕ) (f g : ℕ → ℕ) → ((k : ℕ) → k < n → f k ≡ g k) → Σ F.ops n f ≡ Σ F.ops n g
  Σ-congr n f g same = Σ-congr_mod n f g (λ k h. ap (λ x. x % q) (same k h))

  pub Σ-of_zero : (n : ℕ) (f : ℕ → ℕ) → ((k : ℕ) → k < n → f k % q ≡ 0) → Σ F.ops n f ≡ 0
  Σ-of_zero zero f none = Σ-zero f
  Σ-of_zero (suc n) f none =
      Σ-suc n f
      ∙ sym (plus_right F (Σ F.ops n f) (f n))
      ∙ ap (λ x. Σ F.ops n f ⊕ x) (none n (omega arith))
      ∙ ap (λ x. x ⊕ 0) (Σ-of_zero n f (λ k h. none k (omega arith)))
      ∙ F.plus-zero 0
      ∙ zero-mod-q F

  pub Σ-plus : (n : ℕ) (f g : ℕ → ℕ) → Σ F.ops n (λ k. f k ⊕ g k) ≡ Σ F.ops n f ⊕ Σ F.ops n g
  Σ-plus zero f g = simp (Σ-zero, ring)
  Σ-plus (suc n) f g = simp (Σ-suc, Σ-plus n f g, ring)

  pub times-Σ : (n a : ℕ) (f : ℕ → ℕ) → a ⊗ Σ F.ops n f ≡ Σ F.ops n (λ k. a ⊗ f k)
  times-Σ zero a f = simp (Σ-zero, ring)
  times-Σ (suc n) a f = rw (Σ-suc n f, Σ-suc n (λ k. a ⊗ f k), F.times-plus, times-Σ n a f)

  pub Σ-times : (n a : ℕ) (f : ℕ → ℕ) → Σ F.ops n f ⊗ a ≡ Σ F.ops n (λ k. f k ⊗ a)
  Σ-times n a f = F.times_comm (Σ F.ops n f) a ∙ times-Σ n a f ∙ Σ-congr n (λ k. a ⊗ f k) (λ k. f k ⊗ a) (λ k h. F.times_comm a (f k))

  pub negative-Σ : (n : ℕ) (f : ℕ → ℕ) → negative (Σ F.ops n f) ≡ Σ F.ops n (λ k. negative (f k))
  negative-Σ zero f = simp (Σ-zero, ring)
  negative-Σ (suc n) f = simp (Σ-suc, ring, sym (negative-Σ n f))

  -- sums change places
  pub Σ-comm : (n m : ℕ) (f : ℕ → ℕ → ℕ) → Σ F.ops n (λ i. Σ F.ops m (λ j. f i j)) ≡ Σ F.ops m (λ j. Σ F.ops n (λ i. f i j))
  Σ-comm zero m f = Σ-zero (λ i. Σ F.ops m (λ j. f i j)) ∙ sym (Σ-of_zero m (λ j. Σ F.ops 0 (λ i. f i j)) (λ j h. ap (λ x. x % q) (Σ-zero (λ i. f i j)) ∙ zero-mod-q F))
  Σ-comm (suc n) m f =
      Σ-suc n (λ i. Σ F.ops m (λ j. f i j))
      ∙ ap (λ x. x ⊕ Σ F.ops m (λ j. f n j)) (Σ-comm n m f)
      ∙ sym (Σ-plus m (λ j. Σ F.ops n (λ i. f i j)) (λ j. f n j))
      ∙ Σ-congr m (λ j. Σ F.ops n (λ i. f i j) ⊕ f n j) (λ j. Σ F.ops (suc n) (λ i. f i j)) (λ j h. sym (Σ-suc n (λ i. f i j)))

  -- one place picked out
  pub Σ-δ : (n k : ℕ) (f : ℕ → ℕ) → k < n → Σ F.ops n (λ l. f l ⊗ δ k l) ≡ f k % q
  Σ-δ zero k f h = absurd (omega arith)
  Σ-δ (suc n) k f h =
      Σ-suc n (λ l. f l ⊗ δ k l)
      ∙ (elim (cases_eq k n) [
        | inl e ↦
            ap (λ x. x ⊕ f n ⊗ δ k n) (Σ-of_zero n (λ l. f l ⊗ δ k l) (λ l below. ap (λ x. (f l ⊗ x) % q) (δ-ne k l (omega arith)) ∙ ap (λ x. x % q) (times-zero F (f l)) ∙ zero-mod-q F))
            ∙ ap (λ x. 0 ⊕ f n ⊗ δ x n) e
            ∙ ap (λ x. 0 ⊕ f n ⊗ x) (δ-self n)
            ∙ (simp ring)
            ∙ ap (λ x. f x % q) (sym e)
        | inr other ↦
            ap (λ x. x ⊕ f n ⊗ δ k n) (Σ-δ n k f (omega arith)) ∙ ap (λ x. f k % q ⊕ f n ⊗ x) (δ-ne k n other) ∙ simp ring
      ])

  -- a sum over placed values is a sum over the places
  pub Σ-place : (n s : ℕ) (Q y f : ℕ → ℕ) → Below s Q n → Σ F.ops n (λ j. place F.ops s Q y j ⊗ f j) ≡ Σ F.ops s (λ k. y k ⊗ f (Q k))
  Σ-place n s Q y f below =
      Σ-congr n (λ j. place F.ops s Q y j ⊗ f j) (λ j. Σ F.ops s (λ k. y k ⊗ δ (Q k) j ⊗ f j)) (λ j h. Σ-times s (f j) (λ k. y k ⊗ δ (Q k) j))
      ∙ Σ-comm n s (λ j k. y k ⊗ δ (Q k) j ⊗ f j)
      ∙ Σ-congr s (λ k. Σ F.ops n (λ j. y k ⊗ δ (Q k) j ⊗ f j)) (λ k. y k ⊗ f (Q k))
      (λ k h.
      Σ-congr n (λ j. y k ⊗ δ (Q k) j ⊗ f j) (λ j. y k ⊗ (f j ⊗ δ (Q k) j)) (λ j _. simp ring)
      ∙ sym (times-Σ n (y k) (λ j. f j ⊗ δ (Q k) j))
      ∙ ap (λ x. y k ⊗ x) (Σ-δ n (Q k) f (below k h))
      ∙ times_right F (y k) (f (Q k)))

  -- what is placed stands at its place, where the places differ
  pub place-at : (s : ℕ) (Q y : ℕ → ℕ) → Distinct s Q → (k : ℕ) → k < s → place F.ops s Q y (Q k) ≡ y k % q
  place-at s Q y differ k h =
      Σ-congr s (λ l. y l ⊗ δ (Q l) (Q k)) (λ l. y l ⊗ δ k l)
      (λ l hl. ap (λ x. y l ⊗ x) (elim (cases_eq k l) [
        | inl e ↦ ap (λ x. δ (Q x) (Q k)) (sym e) ∙ δ-self (Q k) ∙ sym (δ-self k) ∙ ap (δ k) e
        | inr n ↦ δ-ne (Q l) (Q k) (λ e. n (sym (differ l k hl h e))) ∙ sym (δ-ne k l n)
      ]))
      ∙ Σ-δ s k y h

  -- and 0 elsewhere
  pub place-elsewhere : (s : ℕ) (Q y : ℕ → ℕ) (j : ℕ) → Outside s Q j → place F.ops s Q y j ≡ 0
  place-elsewhere s Q y j none = Σ-of_zero s (λ l. y l ⊗ δ (Q l) j) (λ l h. ap (λ x. (y l ⊗ x) % q) (δ-ne (Q l) j (none l h)) ∙ ap (λ x. x % q) (times-zero F (y l)) ∙ zero-mod-q F)

  -- 1 at a place less what is placed at others
  pub unit_minus-own : (i s : ℕ) (Q y : ℕ → ℕ) → Outside s Q i → unit_minus F.ops i s Q y i ≡ 1
  unit_minus-own i s Q y none = ap (λ x. x ⊕ negative (place F.ops s Q y i)) (δ-self i) ∙ ap (λ x. 1 ⊕ negative x) (place-elsewhere s Q y i none) ∙ (simp ring)

  pub unit_minus-at : (i s : ℕ) (Q y : ℕ → ℕ) → Distinct s Q → Outside s Q i → (k : ℕ) → k < s → unit_minus F.ops i s Q y (Q k) ≡ negative (y k)
  unit_minus-at i s Q y differ none k h = ap (λ x. x ⊕ negative (place F.ops s Q y (Q k))) (δ-ne i (Q k) (λ e. none k h (sym e))) ∙ ap (λ x. 0 ⊕ negative x) (place-at s Q y differ k h) ∙ (simp ring)

  pub unit_minus-elsewhere : (i s : ℕ) (Q y : ℕ → ℕ) (j : ℕ) → i ≢ j → Outside s Q j → unit_minus F.ops i s Q y j ≡ 0
  unit_minus-elsewhere i s Q y j other none = ap (λ x. x ⊕ negative (place F.ops s Q y j)) (δ-ne i j other) ∙ ap (λ x. 0 ⊕ negative x) (place-elsewhere s Q y j none) ∙ (simp ring)

  pub sum_laws : SumLaws F.ops
  sum_laws =
      record {
        plus = Σ-plus;
        times = λ n a f. sym (times-Σ n a f);
        negative = λ n f. sym (negative-Σ n f);
        exchange = Σ-comm;
        one_place = Σ-δ;
        remainders = Σ-congr_mod;
      }
