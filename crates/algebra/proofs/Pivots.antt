-- What pivots are and solve. Assumes nothing.
use Rattle.std.proofs.Common.{◌≡◌, ℕ, ◌%◌, ◌<◌, ◌≤◌, sym, ap, ◌∙◌, inl, inr, arith}
use native.Mathlib.Nat.{mod-mod}
use Rattle.field.specs.Laws.{Lawful}
use Rattle.field.proofs.FieldLemmas.{ring, difference_zero, zero_difference, zero-mod-q, plus-mod}
use Rattle.algebra.specs.Places.{Distinct, Outside}
use Rattle.algebra.specs.Vectors.{dot, mul_vec, vec_mul, submatrix, rows_at, place}
use Rattle.algebra.specs.Spans.{Combination, InSpan, Independent, Solves, SolvesAll}
use Rattle.algebra.specs.Pivots.{Pivots, PivotsOf, row_coefficients, column_coefficients, schur, solution, multipliers, kernel_vector}
use Rattle.algebra.specs.Theorems.{PivotLaws, SchurLaws, SolutionLaws, UniquenessLaws, KernelLaws}
use Rattle.algebra.proofs.Deltas.{δ-self, eq-of_δ}
use Rattle.algebra.proofs.Counting.{Among-or_Outside, le-of_Distinct, Among-of_Distinct}
use Rattle.algebra.proofs.Sums.{Σ-mod, Σ-place, place-at, place-elsewhere, unit_minus-own, unit_minus-at, unit_minus-elsewhere}
use Rattle.algebra.proofs.Spans.{InSpan-self}
use Rattle.algebra.proofs.Products.{dot_comm, dot-congr_mod, mul_vec-linear, mul_vec-minus, dot-mul_vec, dot-of_zero, dot-unit_minus, vec_mul-vec_mul_inverse, mul_vec-mul_vec_inverse}

module _ (F : Lawful) (n m : ℕ) (A : ℕ → ℕ → ℕ) (S : Pivots) (I : PivotsOf F.ops n m A S) where
  open F.ops use {plus as ◌⊕◌, times as ◌⊗◌, negative, q}
  open S use {count as s, row as P, column as Q, inverse as B}

  infixl 60 ◌⊕◌
  infixl 70 ◌⊗◌
  abbrev M : ℕ → ℕ → ℕ
  M = submatrix A P Q

  -- row i at the pivot columns, and column j at the pivot rows
  abbrev at_columns : ℕ → ℕ → ℕ
  at_columns i k = A i (Q k)

  abbrev at_rows : ℕ → ℕ → ℕ
  at_rows j l = A (P l) j

  mul_vec-place : (y : ℕ → ℕ) (i : ℕ) → mul_vec F.ops m A (place F.ops s Q y) i ≡ dot F.ops s (at_columns i) y
  mul_vec-place y i = dot_comm F m (A i) (place F.ops s Q y) ∙ Σ-place F m s Q y (A i) I.columns_below ∙ dot_comm F s y (at_columns i)

  -- pivot rows differ, and pivot columns differ
  pub pivot_rows-Distinct : Distinct s P
  pivot_rows-Distinct k l hk hl e = eq-of_δ k l (sym (I.inverts.right k l hk hl) ∙ ap (λ r. dot F.ops s (at_columns r) (λ h. B h l)) e ∙ I.inverts.right l l hl hl ∙ δ-self l)

  pub pivot_columns-Distinct : Distinct s Q
  pivot_columns-Distinct k l hk hl e = eq-of_δ k l (sym (I.inverts.left k l hk hl) ∙ ap (λ c. dot F.ops s (B k) (at_rows c)) (sym e) ∙ I.inverts.left k k hk hk ∙ δ-self k)

  pub count-le_rows : s ≤ n
  count-le_rows = le-of_Distinct n s P I.rows_below pivot_rows-Distinct

  pub count-le_columns : s ≤ m
  count-le_columns = le-of_Distinct m s Q I.columns_below pivot_columns-Distinct

  -- the pivot rows are independent
  pub pivot_rows-Independent : Independent F.ops m s (rows_at A P)
  pivot_rows-Independent c none k h =
      sym (vec_mul-vec_mul_inverse F s k c M B I.inverts.right h)
      ∙ dot_comm F s (vec_mul F.ops s c M) (λ l. B l k)
      ∙ dot-of_zero F s (λ l. B l k) (vec_mul F.ops s c M) (λ l hl. ap (λ x. x % q) (none (Q l) (I.columns_below l hl)) ∙ zero-mod-q F)

  -- the solution satisfies the pivot rows
  pub solution-Solves : (b : ℕ → ℕ) (k : ℕ) → k < s → Solves F.ops m A b (solution F.ops b S) (P k)
  solution-Solves b k h =
      mul_vec-place (mul_vec F.ops s B (λ l. b (P l))) (P k)
      ∙ mul_vec-mul_vec_inverse F s k (λ l. b (P l)) M B I.inverts.right h

  pub solution-at : (b : ℕ → ℕ) (k : ℕ) → k < s → solution F.ops b S (Q k) ≡ mul_vec F.ops s B (λ l. b (P l)) k
  solution-at b k h = place-at F s Q (mul_vec F.ops s B (λ l. b (P l))) pivot_columns-Distinct k h ∙ Σ-mod F s (λ l. B k l ⊗ b (P l))

  -- uA is the Schur complement
  pub vec_mul-multipliers : (i j : ℕ) → i < n → vec_mul F.ops n (multipliers F.ops A S i) A j ≡ schur F.ops A S i j
  vec_mul-multipliers i j h = dot-unit_minus F n i s P (row_coefficients F.ops A S i) (λ r. A r j) h I.rows_below

  -- u · b is what the solution leaves of row i
  pub dot-multipliers : (b : ℕ → ℕ) (i : ℕ) → i < n → dot F.ops n (multipliers F.ops A S i) b ≡ b i ⊕ negative (mul_vec F.ops m A (solution F.ops b S) i)
  dot-multipliers b i h =
      dot-unit_minus F n i s P (row_coefficients F.ops A S i) b h I.rows_below
      ∙ ap (λ x. b i ⊕ negative x)
      (sym (mul_vec-place (mul_vec F.ops s B (λ l. b (P l))) i ∙ dot-mul_vec F s s (at_columns i) B (λ l. b (P l))))

  -- what a row makes of the vector for column j is the Schur complement too
  pub mul_vec-kernel_vector : (j i : ℕ) → j < m → mul_vec F.ops m A (kernel_vector F.ops A S j) i ≡ schur F.ops A S i j
  mul_vec-kernel_vector j i h =
      dot_comm F m (A i) (kernel_vector F.ops A S j)
      ∙ dot-unit_minus F m j s Q (column_coefficients F.ops A S j) (A i) h I.columns_below
      ∙ ap (λ x. A i j ⊕ negative x)
      (dot_comm F s (column_coefficients F.ops A S j) (at_columns i) ∙ dot-mul_vec F s s (at_columns i) B (at_rows j))

  -- the Schur complement is 0 at the pivot columns
  pub schur-pivot_column : (i k : ℕ) → k < s → schur F.ops A S i (Q k) ≡ 0
  schur-pivot_column i k h =
      zero_difference F (A i (Q k)) (vec_mul F.ops s (row_coefficients F.ops A S i) M k)
      (sym (vec_mul-vec_mul_inverse F s k (at_columns i) B M I.inverts.left h) ∙ sym (Σ-mod F s (λ l. row_coefficients F.ops A S i l ⊗ M l k)))

  -- whatever coefficients make row i of the pivot rows are vB
  coefficients-of_Combination : (i : ℕ) (c : ℕ → ℕ) → Combination F.ops m s (rows_at A P) c (A i) → (l : ℕ) → l < s → row_coefficients F.ops A S i l ≡ c l % q
  coefficients-of_Combination i c is l h =
      dot-congr_mod F s (at_columns i) (vec_mul F.ops s c M) (λ k. B k l)
      (λ k hk. is (Q k) (I.columns_below k hk) ∙ sym (Σ-mod F s (λ l. c l ⊗ M l k)))
      ∙ vec_mul-vec_mul_inverse F s l c M B I.inverts.right h

  -- it is 0 in all of a row just where this is a combination of the pivot rows
  pub schur-of_InSpan : (i j : ℕ) → j < m → InSpan F.ops m s (rows_at A P) (A i) → schur F.ops A S i j ≡ 0
  schur-of_InSpan i j h is =
      let c = is.0 in
      let same = dot-congr_mod F s (row_coefficients F.ops A S i) c (at_rows j) (λ l hl. ap (λ x. x % q) (coefficients-of_Combination i c is.1 l hl) ∙ mod-mod (c l) q) in
      zero_difference F (A i j) (dot F.ops s (row_coefficients F.ops A S i) (at_rows j))
      (is.1 j h ∙ sym (Σ-mod F s (λ l. c l ⊗ A (P l) j)) ∙ ap (λ x. x % q) (sym same))

  pub InSpan-of_schur : (i : ℕ) → ((j : ℕ) → j < m → schur F.ops A S i j ≡ 0) → InSpan F.ops m s (rows_at A P) (A i)
  InSpan-of_schur i none = (
    row_coefficients F.ops A S i,
    λ j h. difference_zero F (A i j) (dot F.ops s (row_coefficients F.ops A S i) (at_rows j)) (none j h) ∙ Σ-mod F s (λ l. row_coefficients F.ops A S i l ⊗ A (P l) j),
  )

  pub schur-pivot_row : (k j : ℕ) → k < s → j < m → schur F.ops A S (P k) j ≡ 0
  schur-pivot_row k j hk h = schur-of_InSpan (P k) j h (InSpan-self F m s k (rows_at A P) hk)

  -- a vector that the pivot rows make 0 is 0 where it is 0 at all columns but the pivots'
  module _ (e : ℕ → ℕ) (null : (k : ℕ) → k < s → mul_vec F.ops m A e (P k) ≡ 0) (outside : (j : ℕ) → j < m → Outside s Q j → e j % q ≡ 0) where
    abbrev at_pivots : ℕ → ℕ
    at_pivots k = e (Q k)

    placed : (j : ℕ) → j < m → e j % q ≡ place F.ops s Q at_pivots j % q
    placed j h =
        elim (Among-or_Outside s Q j) [
          | inl found ↦
              ap (λ c. e c % q) (sym found.2)
              ∙ sym (mod-mod (at_pivots found.0) q)
              ∙ ap (λ z. z % q) (sym (place-at F s Q at_pivots pivot_columns-Distinct found.0 found.1))
              ∙ ap (λ c. place F.ops s Q at_pivots c % q) found.2
          | inr none ↦ outside j h none ∙ sym (ap (λ z. z % q) (place-elsewhere F s Q at_pivots j none) ∙ zero-mod-q F)
        ]

    null-at_pivots : (l : ℕ) → l < s → mul_vec F.ops s M at_pivots l ≡ 0
    null-at_pivots l h =
        sym (mul_vec-place at_pivots (P l))
        ∙ dot_comm F m (A (P l)) (place F.ops s Q at_pivots)
        ∙ sym (dot-congr_mod F m e (place F.ops s Q at_pivots) (A (P l)) placed)
        ∙ dot_comm F m e (A (P l))
        ∙ null l h

    null-of_outside : (j : ℕ) → j < m → e j % q ≡ 0
    null-of_outside j h =
        elim (Among-or_Outside s Q j) [
          | inl found ↦
              ap (λ c. e c % q) (sym found.2)
              ∙ sym (mul_vec-mul_vec_inverse F s found.0 at_pivots B M I.inverts.left found.1)
              ∙ dot-of_zero F s (B found.0) (mul_vec F.ops s M at_pivots) (λ l hl. ap (λ z. z % q) (null-at_pivots l hl) ∙ zero-mod-q F)
          | inr none ↦ outside j h none
        ]

  -- two choices that satisfy the pivot rows are equal where they agree at all columns but the pivots'
  pub Solves-unique : (b x y : ℕ → ℕ) → ((k : ℕ) → k < s → Solves F.ops m A b x (P k)) → ((k : ℕ) → k < s → Solves F.ops m A b y (P k)) →
      ((j : ℕ) → j < m → Outside s Q j → x j % q ≡ y j % q) → (j : ℕ) → j < m → x j % q ≡ y j % q
  Solves-unique b x y xs ys agree j h =
      difference_zero F (x j) (y j)
      (sym (plus-mod F (x j) (negative (y j)))
      ∙ null-of_outside (λ j. x j ⊕ negative (y j))
      (λ k hk. mul_vec-minus F m A x y (P k) ∙ ap (λ z. z ⊕ negative (mul_vec F.ops m A y (P k))) (xs k hk) ∙ ap (λ z. b (P k) % q ⊕ negative z) (ys k hk) ∙ (simp ring))
      (λ j h none. ap (λ z. z % q) (zero_difference F (x j) (y j) (agree j h none)) ∙ zero-mod-q F)
      j h)

  -- with as many pivots as columns there is no other column
  pub SolvesAll-unique : s ≡ m → (b x y : ℕ → ℕ) → SolvesAll F.ops n m A b x → SolvesAll F.ops n m A b y → (j : ℕ) → j < m → x j % q ≡ y j % q
  SolvesAll-unique e b x y xs ys =
      Solves-unique b x y (λ k h. xs (P k) (I.rows_below k h)) (λ k h. ys (P k) (I.rows_below k h))
      (λ j h none.
      let found = Among-of_Distinct s Q (λ k hk. let b = I.columns_below k hk in omega arith) pivot_columns-Distinct j (omega arith) in
      absurd (none found.0 found.1 found.2))

  -- where every row is a combination of the pivot rows
  module _ (spanned : (i : ℕ) → i < n → InSpan F.ops m s (rows_at A P) (A i)) (j : ℕ) (h : j < m) where
    pub kernel_vector-null : (i : ℕ) → i < n → mul_vec F.ops m A (kernel_vector F.ops A S j) i ≡ 0
    kernel_vector-null i hi = mul_vec-kernel_vector j i h ∙ schur-of_InSpan i j h (spanned i hi)

    pub kernel_vector-free : (b x : ℕ → ℕ) (c : ℕ) → SolvesAll F.ops n m A b x → SolvesAll F.ops n m A b (λ k. x k ⊕ c ⊗ kernel_vector F.ops A S j k)
    kernel_vector-free b x c xs i hi =
        mul_vec-linear F m A x (kernel_vector F.ops A S j) c i
        ∙ ap (λ z. z ⊕ c ⊗ mul_vec F.ops m A (kernel_vector F.ops A S j) i) (xs i hi)
        ∙ ap (λ z. b i % q ⊕ c ⊗ z) (kernel_vector-null i hi)
        ∙ (simp ring)

  -- the laws of these pivots
  pub pivot_laws : PivotLaws F.ops n m A S
  pivot_laws =
      record {
        independent = pivot_rows-Independent;
        rows_differ = pivot_rows-Distinct;
        columns_differ = pivot_columns-Distinct;
        at_most_rows = count-le_rows;
        at_most_columns = count-le_columns;
      }

  pub schur_laws : SchurLaws F.ops n m A S
  schur_laws =
      record {
        pivot_column = schur-pivot_column;
        pivot_row = schur-pivot_row;
        combination = λ i. (λ is j h. schur-of_InSpan i j h is, InSpan-of_schur i);
        multipliers = vec_mul-multipliers;
        kernel_vector = λ i j. mul_vec-kernel_vector j i;
      }

  pub solution_laws : SolutionLaws F.ops n m A S
  solution_laws =
      record {
        solution_at_pivots = solution-at;
        solution_elsewhere = λ b. place-elsewhere F s Q (mul_vec F.ops s B (λ l. b (P l)));
        solution_solves = solution-Solves;
        multipliers_own = λ i. unit_minus-own F i s P (row_coefficients F.ops A S i);
        multipliers_at_pivots = λ i. unit_minus-at F i s P (row_coefficients F.ops A S i) pivot_rows-Distinct;
        multipliers_elsewhere = λ i. unit_minus-elsewhere F i s P (row_coefficients F.ops A S i);
        multipliers_sums = dot-multipliers;
      }

  pub uniqueness_laws : UniquenessLaws F.ops n m A S
  uniqueness_laws = record { determined = Solves-unique; unique = SolvesAll-unique }

  pub kernel_laws : (j : ℕ) → KernelLaws F.ops n m A S j
  kernel_laws j =
      record {
        own = unit_minus-own F j s Q (column_coefficients F.ops A S j);
        at_pivots = unit_minus-at F j s Q (column_coefficients F.ops A S j) pivot_columns-Distinct;
        elsewhere = unit_minus-elsewhere F j s Q (column_coefficients F.ops A S j);
        kernel = λ spanned h. kernel_vector-null spanned j h;
        free = λ spanned h. kernel_vector-free spanned j h;
      }
