-- The steps of a run, from what slices hold. Assumes nothing.
use Rattle.std.proofs.Common.{◌≡◌, ℕ, suc, ◌+◌, ◌*◌, min, ◌%◌, ◌<◌, ◌≤◌, List, length, take, slice_index, slice_set, sym, ap, ◌∙◌, inl, inr, arith, length-set}
use Rattle.std.specs.Option.{unwrap_or}
use Rattle.std.proofs.lemmas.Bool.{cases_eq}
use Rattle.std.proofs.lemmas.List.{get_or-set_same, get_or-set_other, get_or-take}
use Rattle.field.specs.Operations.{Operations, reciprocal, inverse as inverse_of}
use Rattle.field.specs.Laws.{Lawful}
use Rattle.field.specs.Slices.{Filled}
use Rattle.field.specs.Sums.{Σ}
use Rattle.algebra.specs.Places.{Distinct, Outside}
use Rattle.algebra.specs.Vectors.{dot, mul_vec, vec_mul, unit_minus, extend}
use Rattle.algebra.specs.Pivots.{Pivots, row_coefficients, column_coefficients, schur, grow, solution}
use Rattle.algebra.proofs.Deltas.{extend-last, extend-below}
use Rattle.algebra.proofs.Sums.{Σ-zero, Σ-suc, Σ-congr, Σ-mod}
use Rattle.solver.specs.Slices.{IsVector}
use Rattle.solver.specs.Steps.Vectors.{Begins, Placed}
use Rattle.solver.specs.Steps.Pivots.{pivots_in, PivotsFit, RowsWidened, LastRow, SamePivots}
use Rattle.solver.proofs.Products.{dot_skip}
use Rattle.solver.proofs.Placing.{placed_place, placed_unit_minus}

module _ (F : Lawful) where
  pub dot-congr_right : (n : ℕ) (x y z : ℕ → ℕ) → ((k : ℕ) → k < n → y k ≡ z k) → dot F.ops n x y ≡ dot F.ops n x z
  dot-congr_right n x y z same = Σ-congr F n (λ k. F.ops.times (x k) (y k)) (λ k. F.ops.times (x k) (z k)) (λ k h. ap (F.ops.times (x k)) (same k h))

  pub dot-congr_left : (n : ℕ) (x y z : ℕ → ℕ) → ((k : ℕ) → k < n → x k ≡ y k) → dot F.ops n x z ≡ dot F.ops n y z
  dot-congr_left n x y z same = Σ-congr F n (λ k. F.ops.times (x k) (z k)) (λ k. F.ops.times (y k) (z k)) (λ k h. ap (λ a. F.ops.times a (z k)) (same k h))

  pub dot-mod : (n : ℕ) (x y : ℕ → ℕ) → dot F.ops n x y % F.ops.q ≡ dot F.ops n x y
  dot-mod n x y = Σ-mod F n (λ k. F.ops.times (x k) (y k))

  -- B times the sums at the pivot rows, at the pivot columns
  pub solution_held : (b : ℕ → ℕ) (S : Pivots) (sums product xs : List ℕ) → Begins S.count (λ k. b (S.row k)) sums → Begins S.count (mul_vec F.ops S.count S.inverse (slice_index sums)) product →
      Placed S.count S.column (slice_index product) xs → length xs ≡ 64 → Distinct S.count S.column → IsVector 64 (solution F.ops b S) xs
  solution_held b S sums product xs has is P long distinct =
      let y = mul_vec F.ops S.count S.inverse (λ l. b (S.row l)) in
      record {
        long = long;
        each = λ j h.
            placed_place F S.count S.column (slice_index product) xs distinct y P
            (λ k hk. is k hk ∙ dot-congr_right S.count (S.inverse k) (slice_index sums) (λ l. b (S.row l)) has ∙ sym (dot-mod S.count (S.inverse k) (λ l. b (S.row l))))
            j;
      }

  -- 1 at a row and the negatives of its coefficients at the pivot rows
  pub multipliers_held : (S : Pivots) (i : ℕ) (z negatives xs : List ℕ) → S.count ≤ 64 → IsVector 64 (λ k. F.ops.negative (slice_index z k)) negatives →
      Placed S.count S.row (slice_index negatives) xs → length xs ≡ 96 → i < 96 → Distinct S.count S.row → Outside S.count S.row i →
      IsVector 96 (unit_minus F.ops i S.count S.row (slice_index z)) (slice_set xs i 1)
  multipliers_held S i z negatives xs few N P long below distinct out =
      record {
        long = length-set xs i 1 ∙ long;
        each = λ j h. placed_unit_minus F S.count S.row (slice_index negatives) xs distinct (slice_index z) i (omega arith) P out (λ k hk. N.each k (omega arith)) j;
      }

-- the first r rows of a matrix of s columns, times v 0, .. v (r − 1), added up
pub record RowsCombined (K : Operations) (s : ℕ) (v : ℕ → ℕ) (B : ℕ → ℕ → ℕ) (r : ℕ) (xs : List ℕ) : Type 0 where
  pub long : length xs ≡ 64
  pub each : Begins s (vec_mul K r v B) xs

module _ (F : Lawful) (s : ℕ) (few : s ≤ 64) (v : ℕ → ℕ) (B : ℕ → ℕ → ℕ) where
  pub rows_none : (xs : List ℕ) → IsVector 64 (λ _. 0) xs → RowsCombined F.ops s v B 0 xs
  rows_none xs H = record { long = H.long; each = λ l h. H.each l (omega arith) ∙ sym (Σ-zero F (λ k. F.ops.times (v k) (B k l))) }

  pub rows_next : (r w : ℕ) (row before after : List ℕ) → RowsCombined F.ops s v B r before → w ≡ v r → length row ≡ s → Begins s (B r) row →
      Filled (min (length before) (length row)) (λ l. F.ops.plus (slice_index before l) (F.ops.times w (slice_index row l))) before after → RowsCombined F.ops s v B (r + 1) after
  rows_next r w row before after C e long is A =
      let more : suc r ≡ r + 1 = omega arith in
      record {
        long = A.long ∙ C.long;
        each = λ l h.
            let f = λ (k : ℕ). F.ops.times (v k) (B k l) in
            A.done l (omega (arith, C.long))
            ∙ ap (λ a. F.ops.plus a (F.ops.times w (slice_index row l))) (C.each l h)
            ∙ ap (λ a. F.ops.plus (Σ F.ops r f) (F.ops.times a (slice_index row l))) e
            ∙ ap (λ b. F.ops.plus (Σ F.ops r f) (F.ops.times (v r) b)) (is l h)
            ∙ sym (Σ-suc F r f)
            ∙ ap (λ n. Σ F.ops n f) more;
      }

  -- 0 times a row is nothing
  pub rows_skip : (r : ℕ) (xs : List ℕ) → RowsCombined F.ops s v B r xs → v r ≡ 0 → RowsCombined F.ops s v B (r + 1) xs
  rows_skip r xs C e = record { long = C.long; each = λ l h. C.each l h ∙ sym (dot_skip F v (λ k. B k l) r e) }

-- a row and a column more
module _ (F : Lawful) (A : ℕ → ℕ → ℕ) (s : ℕ) (rows columns inverse : List ℕ) (fit : PivotsFit s rows columns inverse) (i j : ℕ) where
  abbrev S : Pivots
  S = pivots_in s rows columns inverse

  abbrev T : Pivots
  T = grow F.ops A S i j

  module _ (y z : ℕ → ℕ) (w : ℕ) (ys : (k : ℕ) → k < s → y k ≡ column_coefficients F.ops A S j k) (zs : (l : ℕ) → l < s → z l ≡ row_coefficients F.ops A S i l) (pivot : w ≡ inverse_of F.ops (schur F.ops A S i j))
      (widened grown : List ℕ) (W : RowsWidened F.ops s s y w z inverse widened) (L : LastRow F.ops s w z widened grown) (room : s < 64) where
    abbrev Y : ℕ → ℕ
    Y = column_coefficients F.ops A S j

    abbrev Z : ℕ → ℕ
    Z = row_coefficients F.ops A S i

    abbrev V : ℕ
    V = inverse_of F.ops (schur F.ops A S i j)

    -- the four blocks
    abbrev inner : ℕ → ℕ → ℕ
    inner k l = F.ops.plus (S.inverse k l) (F.ops.times (F.ops.times (Y k) V) (Z l))

    abbrev right : ℕ → ℕ
    right k = F.ops.negative (F.ops.times (Y k) V)

    abbrev below : ℕ → ℕ
    below l = F.ops.negative (F.ops.times V (Z l))

    upper : (k : ℕ) → k < s → T.inverse k ≡ extend s (inner k) (right k)
    upper k h = extend-below s (λ k. extend s (inner k) (right k)) (extend s below V) k h

    lower : T.inverse s ≡ extend s below V
    lower = extend-last s (λ k. extend s (inner k) (right k)) (extend s below V)

    entries : (k l : ℕ) → k < s + 1 → l < s + 1 → slice_index grown (k * 64 + l) ≡ T.inverse k l
    entries k l hk hl =
        elim (cases_eq k s) [
          | inl last ↦
              rw (last)
              (elim (cases_eq l s) [
                | inl corner ↦ rw (corner) (L.last ∙ pivot ∙ sym (extend-last s below V) ∙ ap (λ f. f s) (sym lower))
                | inr other ↦
                    let h : l < s = omega arith in
                    L.own l h ∙ ap (λ v. F.ops.negative (F.ops.times v (z l))) pivot ∙ ap (λ v. F.ops.negative (F.ops.times V v)) (zs l h)
                    ∙ sym (extend-below s below V l h)
                    ∙ ap (λ f. f l) (sym lower)
              ])
          | inr up ↦
              let hk : k < s = omega arith in
              elim (cases_eq l s) [
                | inl corner ↦
                    rw (corner)
                    (L.others k s up room ∙ W.last k hk ∙ ap (λ v. F.ops.negative (F.ops.times v w)) (ys k hk) ∙ ap (λ v. F.ops.negative (F.ops.times (Y k) v)) pivot
                    ∙ sym (extend-last s (inner k) (right k))
                    ∙ ap (λ f. f s) (sym (upper k hk)))
                | inr other ↦
                    let h : l < s = omega arith in
                    L.others k l up (omega arith)
                    ∙ W.own k l hk h
                    ∙ ap (λ v. F.ops.plus (S.inverse k l) (F.ops.times (F.ops.times v w) (z l))) (ys k hk)
                    ∙ ap (λ v. F.ops.plus (S.inverse k l) (F.ops.times (F.ops.times (Y k) v) (z l))) pivot
                    ∙ ap (λ v. F.ops.plus (S.inverse k l) (F.ops.times (F.ops.times (Y k) V) v)) (zs l h)
                    ∙ sym (extend-below s (inner k) (right k) l h)
                    ∙ ap (λ f. f l) (sym (upper k hk))
              ]
        ]

    pub grown_held : SamePivots (pivots_in (s + 1) (slice_set rows s i) (slice_set columns s j) grown) T
    grown_held =
        record {
          count = omega arith;
          row = λ k h. elim (cases_eq k s) [
            | inl own ↦ rw (own) (get_or-set_same rows s i 0 (omega (arith, fit.row_places)) ∙ sym (extend-last s (slice_index rows) i))
            | inr other ↦ get_or-set_other rows s k i 0 other ∙ sym (extend-below s (slice_index rows) i k (omega arith))
          ];
          column = λ k h. elim (cases_eq k s) [
            | inl own ↦ rw (own) (get_or-set_same columns s j 0 (omega (arith, fit.column_places)) ∙ sym (extend-last s (slice_index columns) j))
            | inr other ↦ get_or-set_other columns s k j 0 other ∙ sym (extend-below s (slice_index columns) j k (omega arith))
          ];
          inverse = λ k l hk hl. entries k l (omega arith) (omega arith);
        }

  -- from what the slices hold
  module _ (coefficients column product : List ℕ) (zs : Begins s (row_coefficients F.ops A S i) coefficients) (cs : Begins s (λ k. A (S.row k) j) column) (ys : Begins s (mul_vec F.ops s S.inverse (slice_index column)) product) where
    abbrev taken : ℕ → ℕ
    taken = slice_index (take s coefficients)

    pub same_z : (l : ℕ) → l < s → taken l ≡ row_coefficients F.ops A S i l
    same_z l h = get_or-take s coefficients l 0 h ∙ zs l h

    pub same_y : (k : ℕ) → k < s → slice_index product k ≡ column_coefficients F.ops A S j k
    same_y k h = ys k h ∙ dot-congr_right F s (S.inverse k) (slice_index column) (λ l. A (S.row l) j) cs

    pub same_pivot : (rest v : ℕ) → rest ≡ F.ops.plus (A i j) (F.ops.negative (dot F.ops s taken (slice_index column))) → v ≡ unwrap_or (reciprocal F.ops rest) 0 → v ≡ inverse_of F.ops (schur F.ops A S i j)
    unfolding inverse_of
    same_pivot rest v e found =
        let product = dot-congr_left F s taken (row_coefficients F.ops A S i) (slice_index column) same_z ∙ dot-congr_right F s (row_coefficients F.ops A S i) (slice_index column) (λ l. A (S.row l) j) cs in
        found ∙ ap (λ r. unwrap_or (reciprocal F.ops r) 0) (e ∙ ap (λ d. F.ops.plus (A i j) (F.ops.negative d)) product)
