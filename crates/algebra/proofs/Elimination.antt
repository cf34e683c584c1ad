-- The elimination: what it keeps holds at the start, stays where a row is stale and grows where it is fresh. Assumes nothing.
use Rattle.std.proofs.Common.{◌≡◌, ℕ, zero, suc, ◌<◌, ◌≤◌, ◌≢◌, ◌⊎◌, ◌==◌, not, Some, None, true, sym, refl, ap, subst, ◌∙◌, inl, inr, arith}
use Rattle.std.proofs.lemmas.Bool.{cases_eq, cases_lt, eq-eqb, ne_eqb, true≢false}
use Rattle.field.specs.Reciprocals.{first_from-some, first_from-none}
use Rattle.field.specs.Laws.{Lawful}
use Rattle.algebra.specs.Places.{Among}
use Rattle.algebra.specs.Vectors.{rows_at, extend}
use Rattle.algebra.specs.Spans.{InSpan}
use Rattle.algebra.specs.Pivots.{Pivots, PivotsOf, no_pivots, schur, grow}
use Rattle.algebra.specs.Profiles.{InProfile, Elimination, fresh_column, with_row, eliminate}
use Rattle.algebra.proofs.Deltas.{extend-last, extend-below, below-suc}
use Rattle.algebra.proofs.Growth.{no_pivots-PivotsOf, grow-PivotsOf}
use Rattle.algebra.proofs.Spans.{InSpan-self, InSpan-trans, InSpan-of_rows_at, not_InSpan-of_Independent}
use Rattle.algebra.proofs.Pivots.{InSpan-of_schur, pivot_rows-Independent}

module _ (F : Lawful) (m : ℕ) (A : ℕ → ℕ → ℕ) where
  pub Elimination-start : Elimination F.ops m A 0 no_pivots
  Elimination-start = record { pivots = no_pivots-PivotsOf F 0 m A; rising = λ k l _ h. absurd (omega arith); others = λ r h. absurd (omega arith) }

  module _ (i : ℕ) (S : Pivots) (E : Elimination F.ops m A i S) where
    more_rows : PivotsOf F.ops (suc i) m A S
    more_rows = record { rows_below = λ k h. let b = E.pivots.rows_below k h in omega arith; columns_below = E.pivots.columns_below; inverts = E.pivots.inverts }

    pub Elimination-stay : ((j : ℕ) → j < m → schur F.ops A S i j ≡ 0) → Elimination F.ops m A (suc i) S
    Elimination-stay stale =
        record {
          pivots = more_rows;
          rising = E.rising;
          others = below-suc (λ r. Among S.count S.row r ⊎ InSpan F.ops m r A (A r)) i E.others (inr (InSpan-of_rows_at F m S.count i S.row A (A i) E.pivots.rows_below (InSpan-of_schur F i m A S E.pivots i stale)));
        }

    pub Elimination-grow : (j : ℕ) → j < m → schur F.ops A S i j ≢ 0 → Elimination F.ops m A (suc i) (grow F.ops A S i j)
    Elimination-grow j h some =
        let row = extend-below S.count S.row i in
        let new = extend-last S.count S.row i in
        record {
          pivots = grow-PivotsOf F (suc i) m A S i j more_rows (omega arith) h some;
          rising = λ k l less hl.
              below-suc (λ l. k < l → extend S.count S.row i k < extend S.count S.row i l) S.count
              (λ l hl less. let r = E.rising k l less hl in let e = row k (omega arith) in let e' = row l hl in omega arith)
              (λ less. let b = E.pivots.rows_below k less in let e = row k less in omega arith)
              l hl less;
          others = below-suc (λ r. Among (suc S.count) (extend S.count S.row i) r ⊎ InSpan F.ops m r A (A r)) i
              (λ r hr. elim (E.others r hr) [
                | inl pivot ↦ inl (pivot.0, omega (arith, pivot.1), row pivot.0 pivot.1 ∙ pivot.2)
                | inr is ↦ inr is
              ])
              (inl (S.count, omega arith, new));
        }

    -- the rows before a bound are combinations of the first t pivot rows, where all pivot rows before it are among these
    pub InSpan-of_pivots : (t bound : ℕ) → t ≤ S.count → bound ≤ i → ((k : ℕ) → k < S.count → S.row k < bound → k < t) → (r : ℕ) → r < bound → InSpan F.ops m t (rows_at A S.row) (A r)
    InSpan-of_pivots t bound few most early r h = spanned bound r h (omega arith)
      where
        spanned : (u r : ℕ) → r < u → u ≤ bound → InSpan F.ops m t (rows_at A S.row) (A r)
        spanned zero r h b = absurd (omega arith)
        spanned (suc u) r h b =
            elim (cases_eq r u) [
              | inr n ↦ spanned u r (omega arith) (omega arith)
              | inl e ↦
                  subst (λ x. InSpan F.ops m t (rows_at A S.row) (A x)) (sym e)
                  (elim (E.others u (omega arith)) [
                    | inl pivot ↦
                        let k = pivot.0 in
                        let at : S.row k ≡ u = pivot.2 in
                        subst (λ x. InSpan F.ops m t (rows_at A S.row) (A x)) at (InSpan-self F m t k (rows_at A S.row) (early k pivot.1 (omega arith)))
                    | inr is ↦ InSpan-trans F m u t A (rows_at A S.row) (A u) is (λ k hk. spanned u k hk (omega arith))
                  ])
            ]

    pub InSpan-of_all_pivots : (r : ℕ) → r < i → InSpan F.ops m S.count (rows_at A S.row) (A r)
    InSpan-of_all_pivots = InSpan-of_pivots S.count i (omega arith) (omega arith) (λ k h _. h)

    pub index-lt_of_row : (k l : ℕ) → k < S.count → l < S.count → S.row l < S.row k → l < k
    index-lt_of_row k l hk hl less =
        elim (cases_lt l k) [
          | inl h ↦ h
          | inr h ↦
              elim (cases_eq k l) [
                | inl e ↦ let same = ap S.row e in absurd (omega arith)
                | inr n ↦ let more = E.rising k l (omega arith) hl in absurd (omega arith)
              ]
        ]

    -- a pivot row is no combination of the rows before it
    pub InProfile-of_pivot : (k : ℕ) → k < S.count → InProfile F.ops m A (S.row k)
    InProfile-of_pivot k h is =
        not_InSpan-of_Independent F m S.count k (rows_at A S.row) (pivot_rows-Independent F i m A S E.pivots) h
        (InSpan-trans F m (S.row k) k A (rows_at A S.row) (A (S.row k)) is
        (InSpan-of_pivots k (S.row k) (omega arith) (let b = E.pivots.rows_below k h in omega arith) (λ l hl less. index-lt_of_row k l h hl less)))

  not_true-zero : (a : ℕ) → not (a == 0) ≢ true → a ≡ 0
  not_true-zero a n =
      elim (cases_eq a 0) [
        | inl e ↦ e
        | inr some ↦ absurd (n (ap not (ne_eqb a 0 some)))
      ]

  true-ne_zero : (a : ℕ) → not (a == 0) ≡ true → a ≢ 0
  true-ne_zero a e z = true≢false (sym e ∙ ap not (eq-eqb a 0 z))

  pub with_row-ways : (S : Pivots) (i : ℕ) (P : Pivots → Type 0) → (((j : ℕ) → j < m → schur F.ops A S i j ≡ 0) → P S) → ((j : ℕ) → j < m → schur F.ops A S i j ≢ 0 → P (grow F.ops A S i j)) → P (with_row F.ops m A S i)
  unfolding with_row
  with_row-ways S i P stale fresh =
      let test = λ (j : ℕ). not (schur F.ops A S i j == 0) in
      (elim (fresh_column F.ops m A S i) as (λ o. fresh_column F.ops m A S i ≡ o → P (elim o [ None ↦ S | Some j ↦ grow F.ops A S i j ])) [
        | None ↦ λ e. stale (λ j h. not_true-zero (schur F.ops A S i j) (first_from-none test m 0 j e (omega arith) (omega arith)))
        | Some j ↦ λ e. let f = first_from-some test m 0 j e in fresh j (omega (arith, f.1)) (true-ne_zero (schur F.ops A S i j) f.0)
      ])
      refl

  -- after i rows the elimination holds what it keeps
  pub eliminate-Elimination : (i : ℕ) → Elimination F.ops m A i (eliminate F.ops m A i)
  unfolding eliminate
  eliminate-Elimination zero = Elimination-start
  eliminate-Elimination (suc i) =
      let S = eliminate F.ops m A i in
      let E = eliminate-Elimination i in
      with_row-ways S i (Elimination F.ops m A (suc i)) (Elimination-stay i S E) (Elimination-grow i S E)
