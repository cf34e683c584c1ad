-- Pivots that are the same as far as they count have the same solution, multipliers and growth. Assumes nothing.
use Rattle.std.proofs.Common.{◌≡◌, ℕ, suc, ◌<◌, sym, refl, ap, ◌∙◌, inl, inr, arith}
use Rattle.std.proofs.lemmas.Bool.{cases_eq}
use Rattle.field.specs.Laws.{Lawful}
use Rattle.field.specs.Sums.{Σ}
use Rattle.field.specs.Operations.{inverse}
use Rattle.algebra.specs.Vectors.{δ, mul_vec, place, extend, bordered}
use Rattle.algebra.specs.Pivots.{Pivots, PivotsOf, row_coefficients, column_coefficients, schur, grown, grow, solution, multipliers}
use Rattle.algebra.proofs.Deltas.{extend-last, extend-below}
use Rattle.algebra.proofs.Sums.{Σ-congr}
use Rattle.algebra.specs.Profiles.{pivot_rows}
use Rattle.solver.specs.Steps.Pivots.{SamePivots}
use Rattle.solver.specs.Runs.{pivot_columns}
use Rattle.solver.proofs.Filling.{values_same}

-- what is extended by the same, below s + 1
extend-same : (s : ℕ) (f g : ℕ → ℕ) (x y : ℕ) → x ≡ y → ((k : ℕ) → k < s → f k ≡ g k) → (k : ℕ) → k < suc s → extend s f x k ≡ extend s g y k
extend-same s f g x y e below k h =
    elim (cases_eq k s) [
      | inl last ↦ rw (last) (extend-last s f x ∙ e ∙ sym (extend-last s g y))
      | inr other ↦ extend-below s f x k (omega arith) ∙ below k (omega arith) ∙ sym (extend-below s g y k (omega arith))
    ]

bordered-same : (s : ℕ) (M N : ℕ → ℕ → ℕ) (a b v w : ℕ → ℕ) (d e : ℕ) → ((k l : ℕ) → k < s → l < s → M k l ≡ N k l) → ((k : ℕ) → k < s → a k ≡ b k) → ((l : ℕ) → l < s → v l ≡ w l) → d ≡ e →
    (k l : ℕ) → k < suc s → l < suc s → bordered s M a v d k l ≡ bordered s N b w e k l
bordered-same s M N a b v w d e inner right below corner k l hk hl =
    elim (cases_eq k s) [
      | inl last ↦
          rw (last)
          (ap (λ f. f l) (extend-last s (λ k. extend s (M k) (a k)) (extend s v d))
          ∙ extend-same s v w d e corner below l hl
          ∙ ap (λ f. f l) (sym (extend-last s (λ k. extend s (N k) (b k)) (extend s w e))))
      | inr other ↦
          let h : k < s = omega arith in
          ap (λ f. f l) (extend-below s (λ k. extend s (M k) (a k)) (extend s v d) k h)
          ∙ extend-same s (M k) (N k) (a k) (b k) (right k h) (λ l hl. inner k l h hl) l hl
          ∙ ap (λ f. f l) (sym (extend-below s (λ k. extend s (N k) (b k)) (extend s w e) k h))
    ]

module _ (F : Lawful) where
  open F.ops use {plus as ◌⊕◌, times as ◌⊗◌, negative, q}

  infixl 60 ◌⊕◌
  infixl 70 ◌⊗◌
  -- over as many places
  Σ-same : (s t : ℕ) (f g : ℕ → ℕ) → s ≡ t → ((k : ℕ) → k < t → f k ≡ g k) → Σ F.ops s f ≡ Σ F.ops t g
  Σ-same s t f g e same = ap (λ n. Σ F.ops n f) e ∙ Σ-congr F t f g same

  times-same : (a b c d : ℕ) → a ≡ b → c ≡ d → a ⊗ c ≡ b ⊗ d
  times-same a b c d e f = ap (λ x. x ⊗ c) e ∙ ap (λ x. b ⊗ x) f

  place-same : (s t : ℕ) (P Q y z : ℕ → ℕ) (j : ℕ) → s ≡ t → ((k : ℕ) → k < t → P k ≡ Q k) → ((k : ℕ) → k < t → y k ≡ z k) → place F.ops s P y j ≡ place F.ops t Q z j
  place-same s t P Q y z j e places values =
      Σ-same s t (λ k. y k ⊗ δ (P k) j) (λ k. z k ⊗ δ (Q k) j) e (λ k h. times-same (y k) (z k) (δ (P k) j) (δ (Q k) j) (values k h) (ap (λ p. δ p j) (places k h)))

  module _ (A : ℕ → ℕ → ℕ) (S T : Pivots) (same : SamePivots S T) where
    pub row_coefficients-same : (i l : ℕ) → l < T.count → row_coefficients F.ops A S i l ≡ row_coefficients F.ops A T i l
    row_coefficients-same i l h =
        Σ-same S.count T.count (λ k. A i (S.column k) ⊗ S.inverse k l) (λ k. A i (T.column k) ⊗ T.inverse k l) same.count
        (λ k hk. times-same (A i (S.column k)) (A i (T.column k)) (S.inverse k l) (T.inverse k l) (ap (A i) (same.column k hk)) (same.inverse k l hk h))

    column_coefficients-same : (j k : ℕ) → k < T.count → column_coefficients F.ops A S j k ≡ column_coefficients F.ops A T j k
    column_coefficients-same j k h =
        Σ-same S.count T.count (λ l. S.inverse k l ⊗ A (S.row l) j) (λ l. T.inverse k l ⊗ A (T.row l) j) same.count
        (λ l hl. times-same (S.inverse k l) (T.inverse k l) (A (S.row l) j) (A (T.row l) j) (same.inverse k l h hl) (ap (λ r. A r j) (same.row l hl)))

    pub schur-same : (i j : ℕ) → schur F.ops A S i j ≡ schur F.ops A T i j
    schur-same i j =
        ap (λ d. A i j ⊕ negative d)
        (Σ-same S.count T.count (λ l. row_coefficients F.ops A S i l ⊗ A (S.row l) j) (λ l. row_coefficients F.ops A T i l ⊗ A (T.row l) j) same.count
        (λ l h. times-same (row_coefficients F.ops A S i l) (row_coefficients F.ops A T i l) (A (S.row l) j) (A (T.row l) j) (row_coefficients-same i l h) (ap (λ r. A r j) (same.row l h))))

    pub solution-same : (b : ℕ → ℕ) (j : ℕ) → solution F.ops b S j ≡ solution F.ops b T j
    solution-same b j =
        place-same S.count T.count S.column T.column (mul_vec F.ops S.count S.inverse (λ l. b (S.row l))) (mul_vec F.ops T.count T.inverse (λ l. b (T.row l))) j same.count same.column
        (λ k h. Σ-same S.count T.count (λ l. S.inverse k l ⊗ b (S.row l)) (λ l. T.inverse k l ⊗ b (T.row l)) same.count
        (λ l hl. times-same (S.inverse k l) (T.inverse k l) (b (S.row l)) (b (T.row l)) (same.inverse k l h hl) (ap b (same.row l hl))))

    pub multipliers-same : (i j : ℕ) → multipliers F.ops A S i j ≡ multipliers F.ops A T i j
    multipliers-same i j =
        ap (λ p. δ i j ⊕ negative p)
        (place-same S.count T.count S.row T.row (row_coefficients F.ops A S i) (row_coefficients F.ops A T i) j same.count same.row (row_coefficients-same i))

    pub grow-same : (i j : ℕ) → SamePivots (grow F.ops A S i j) (grow F.ops A T i j)
    grow-same i j =
        let ys = column_coefficients-same j in
        let zs = row_coefficients-same i in
        let pivot = ap (inverse F.ops) (schur-same i j) in
        let corner = λ (k : ℕ) (h : k < T.count). times-same (column_coefficients F.ops A S j k) (column_coefficients F.ops A T j k) (inverse F.ops (schur F.ops A S i j)) (inverse F.ops (schur F.ops A T i j)) (ys k h) pivot in
        record {
          count = ap suc same.count;
          row = λ k h. ap (λ s. extend s S.row i k) same.count ∙ extend-same T.count S.row T.row i i refl same.row k h;
          column = λ k h. ap (λ s. extend s S.column j k) same.count ∙ extend-same T.count S.column T.column j j refl same.column k h;
          inverse = λ k l hk hl.
              ap (λ s. grown F.ops s S.inverse (column_coefficients F.ops A S j) (inverse F.ops (schur F.ops A S i j)) (row_coefficients F.ops A S i) k l) same.count
              ∙ bordered-same T.count
              (λ k l. S.inverse k l ⊕ (column_coefficients F.ops A S j k ⊗ inverse F.ops (schur F.ops A S i j)) ⊗ row_coefficients F.ops A S i l)
              (λ k l. T.inverse k l ⊕ (column_coefficients F.ops A T j k ⊗ inverse F.ops (schur F.ops A T i j)) ⊗ row_coefficients F.ops A T i l)
              (λ k. negative (column_coefficients F.ops A S j k ⊗ inverse F.ops (schur F.ops A S i j)))
              (λ k. negative (column_coefficients F.ops A T j k ⊗ inverse F.ops (schur F.ops A T i j)))
              (λ l. negative (inverse F.ops (schur F.ops A S i j) ⊗ row_coefficients F.ops A S i l))
              (λ l. negative (inverse F.ops (schur F.ops A T i j) ⊗ row_coefficients F.ops A T i l))
              (inverse F.ops (schur F.ops A S i j)) (inverse F.ops (schur F.ops A T i j))
              (λ k l hk hl.
              ap (λ b. b ⊕ (column_coefficients F.ops A S j k ⊗ inverse F.ops (schur F.ops A S i j)) ⊗ row_coefficients F.ops A S i l) (same.inverse k l hk hl)
              ∙ ap (λ c. T.inverse k l ⊕ c ⊗ row_coefficients F.ops A S i l) (corner k hk)
              ∙ ap (λ z. T.inverse k l ⊕ (column_coefficients F.ops A T j k ⊗ inverse F.ops (schur F.ops A T i j)) ⊗ z) (zs l hl))
              (λ k h. ap negative (corner k h))
              (λ l h. ap negative (times-same (inverse F.ops (schur F.ops A S i j)) (inverse F.ops (schur F.ops A T i j)) (row_coefficients F.ops A S i l) (row_coefficients F.ops A T i l) pivot (zs l h)))
              pivot k l hk hl;
        }

    submatrix-same : (k l : ℕ) → k < T.count → l < T.count → A (S.row k) (S.column l) ≡ A (T.row k) (T.column l)
    submatrix-same k l hk hl = ap (λ r. A r (S.column l)) (same.row k hk) ∙ ap (A (T.row k)) (same.column l hl)

    -- pivots of a matrix stay so
    pub PivotsOf-same : (n m : ℕ) → PivotsOf F.ops n m A T → PivotsOf F.ops n m A S
    PivotsOf-same n m I =
        record {
          rows_below = λ k h. let e = same.row k (omega (arith, same.count)) in let b = I.rows_below k (omega (arith, same.count)) in omega arith;
          columns_below = λ k h. let e = same.column k (omega (arith, same.count)) in let b = I.columns_below k (omega (arith, same.count)) in omega arith;
          inverts = record {
            left = λ k l hk hl.
                Σ-same S.count T.count (λ c. S.inverse k c ⊗ A (S.row c) (S.column l)) (λ c. T.inverse k c ⊗ A (T.row c) (T.column l)) same.count
                (λ c h. times-same (S.inverse k c) (T.inverse k c) (A (S.row c) (S.column l)) (A (T.row c) (T.column l)) (same.inverse k c (omega (arith, same.count)) h) (submatrix-same c l h (omega (arith, same.count))))
                ∙ I.inverts.left k l (omega (arith, same.count)) (omega (arith, same.count));
            right = λ k l hk hl.
                Σ-same S.count T.count (λ c. A (S.row k) (S.column c) ⊗ S.inverse c l) (λ c. A (T.row k) (T.column c) ⊗ T.inverse c l) same.count
                (λ c h. times-same (A (S.row k) (S.column c)) (A (T.row k) (T.column c)) (S.inverse c l) (T.inverse c l) (submatrix-same k c (omega (arith, same.count)) h) (same.inverse c l h (omega (arith, same.count))))
                ∙ I.inverts.right k l (omega (arith, same.count)) (omega (arith, same.count));
          };
        }

    pub pivot_rows-same : pivot_rows S ≡ pivot_rows T
    pivot_rows-same = values_same S.count T.count S.row T.row same.count same.row

    pub pivot_columns-same : pivot_columns S ≡ pivot_columns T
    pivot_columns-same = values_same S.count T.count S.column T.column same.count same.column
