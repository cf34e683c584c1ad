-- The elimination, row by row. Assumes nothing.
use Rattle.std.proofs.Common.{◌≡◌, ℕ, zero, suc, ◌+◌, ◌<◌, ◌≤◌, ◌==◌, not, true, false, List, length, slice_index, take, Some, None, Option, sym, refl, ap, subst, ◌∙◌, arith}
use Rattle.field.specs.Operations.{Operations, first_from}
use Rattle.field.specs.Laws.{Lawful}
use Rattle.field.specs.Slices.{Filled}
use Rattle.rows.specs.Systems.{System, WellFormed}
use Rattle.rows.specs.Values.{entry}
use Rattle.algebra.specs.Places.{Distinct, Outside}
use Rattle.algebra.specs.Vectors.{unit_minus}
use Rattle.algebra.specs.Pivots.{Pivots, PivotsOf, row_coefficients, schur, grow}
use Rattle.algebra.specs.Profiles.{fresh_column, with_row, eliminate}
use Rattle.algebra.proofs.Elimination.{eliminate-Elimination}
use Rattle.algebra.proofs.Pivots.{count-le_rows}
use Rattle.algebra.proofs.Counting.{get_or-values}
use Rattle.algebra.proofs.Profiles.{pivot_rows-length, rank_profile-RankProfile, RankProfile-iff_LeastLongest}
use Rattle.solver.specs.Slices.{IsVector}
use Rattle.solver.specs.Steps.Pivots.{SamePivots}
use Rattle.solver.specs.Steps.Vectors.{Begins}
use Rattle.solver.specs.Questions.{about_columns, value_at, first_place}
use Rattle.solver.specs.Runs.{u_of}
use Rattle.solver.specs.Profiling.{profile_of, Profiles}
use Rattle.solver.proofs.Asking.{columns_asked, column_left}
use Rattle.solver.proofs.Verifying.{first_true}
use Rattle.solver.proofs.Running.{room}
use Rattle.solver.proofs.Same.{schur-same, grow-same, PivotsOf-same}

-- a search goes by the values searched
first_from-congr : (f g : ℕ → ℕ) (n a : ℕ) → ((k : ℕ) → k < a + n → f k ≡ g k) → first_from (λ k. not (f k == 0)) n a ≡ first_from (λ k. not (g k == 0)) n a
unfolding first_from
first_from-congr f g zero a same = refl
first_from-congr f g (suc n) a same =
    ap (λ v. elim (not (v == 0)) [ true ↦ Some a | false ↦ first_from (λ k. not (f k == 0)) n (suc a) ]) (same a (omega arith))
    ∙ ap (λ later. elim (not (g a == 0)) [ true ↦ Some a | false ↦ later ]) (first_from-congr f g n (suc a) (λ k h. same k (omega arith)))

pub SamePivots-refl : (P : Pivots) → SamePivots P P
SamePivots-refl P = record { count = refl; row = λ k h. refl; column = λ k h. refl; inverse = λ k l hk hl. refl }

SamePivots-trans : (P Q R : Pivots) → SamePivots P Q → SamePivots Q R → SamePivots P R
SamePivots-trans P Q R a b =
    record {
      count = a.count ∙ b.count;
      row = λ k h. a.row k (omega (arith, b.count)) ∙ b.row k h;
      column = λ k h. a.column k (omega (arith, b.count)) ∙ b.column k h;
      inverse = λ k l hk hl. a.inverse k l (omega (arith, b.count)) (omega (arith, b.count)) ∙ b.inverse k l hk hl;
    }

-- a row of the elimination, by what the search for a fresh column finds
with_row-is : (K : Operations) (m : ℕ) (A : ℕ → ℕ → ℕ) (P : Pivots) (i : ℕ) (r : Option ℕ) → fresh_column K m A P i ≡ r → with_row K m A P i ≡ elim r [ None ↦ P | Some j ↦ grow K A P i j ]
unfolding with_row
with_row-is K m A P i r e = ap (λ r. elim r [ None ↦ P | Some j ↦ grow K A P i j ]) e

module _ (F : Lawful) (m : ℕ) (A : ℕ → ℕ → ℕ) where
  at_found : (P Q : Pivots) (i : ℕ) → SamePivots P Q → (r : Option ℕ) → SamePivots (elim r [ None ↦ P | Some j ↦ grow F.ops A P i j ]) (elim r [ None ↦ Q | Some j ↦ grow F.ops A Q i j ])
  at_found P Q i same None = same
  at_found P Q i same (Some j) = grow-same F A P Q same i j

  with_row-same : (P Q : Pivots) (i : ℕ) → SamePivots P Q → SamePivots (with_row F.ops m A P i) (with_row F.ops m A Q i)
  with_row-same P Q i same =
      let r = fresh_column F.ops m A Q i in
      let e : fresh_column F.ops m A P i ≡ r = first_from-congr (schur F.ops A P i) (schur F.ops A Q i) m 0 (λ j h. schur-same F A P Q same i j) in
      rw (with_row-is F.ops m A P i r e, with_row-is F.ops m A Q i r refl) (at_found P Q i same r)

  eliminate-suc : (i : ℕ) → eliminate F.ops m A (suc i) ≡ with_row F.ops m A (eliminate F.ops m A i) i
  unfolding eliminate
  eliminate-suc i = refl

  -- a row more
  pub eliminated_next : (P P' : Pivots) (i : ℕ) → SamePivots P (eliminate F.ops m A i) → SamePivots P' (with_row F.ops m A P i) → SamePivots P' (eliminate F.ops m A (i + 1))
  eliminated_next P P' i same next =
      let more : suc i ≡ i + 1 = omega arith in
      subst (λ S. SamePivots P' S) (sym (eliminate-suc i) ∙ ap (eliminate F.ops m A) more)
      (SamePivots-trans P' (with_row F.ops m A P i) (with_row F.ops m A (eliminate F.ops m A i) i) next (with_row-same P (eliminate F.ops m A i) i same))

  pub eliminated_start : (P : Pivots) → P.count ≡ 0 → SamePivots P (eliminate F.ops m A 0)
  unfolding eliminate
  eliminated_start P e = record { count = e; row = λ k h. absurd (omega arith); column = λ k h. absurd (omega arith); inverse = λ k l h. absurd (omega arith) }

  module _ (n i : ℕ) (few : i ≤ n) (P : Pivots) (same : SamePivots P (eliminate F.ops m A i)) where
    pub eliminated_pivots : PivotsOf F.ops n m A P
    eliminated_pivots =
        let I = (eliminate-Elimination F m A i).pivots in
        let J : PivotsOf F.ops n m A (eliminate F.ops m A i) = record { rows_below = λ k h. let b = I.rows_below k h in omega arith; columns_below = I.columns_below; inverts = I.inverts } in
        PivotsOf-same F A P (eliminate F.ops m A i) same n m J

    pub eliminated_outside : Outside P.count P.row i
    eliminated_outside k h e =
        let b = (eliminate-Elimination F m A i).pivots.rows_below k (omega (arith, same.count)) in
        let s = same.row k (omega (arith, same.count)) in
        omega arith

-- the fresh column is the first place that the column question is about
fresh_asked : (F : Lawful) (S : System) (P : Pivots) (i : ℕ) → ((j : ℕ) → j < S.width → value_at F.ops S (about_columns (u_of F.ops S P i)) j ≡ schur F.ops (entry F.ops S) P i j) →
    fresh_column F.ops S.width (entry F.ops S) P i ≡ first_place F.ops S (about_columns (u_of F.ops S P i))
fresh_asked F S P i same = sym (first_from-congr (value_at F.ops S (about_columns (u_of F.ops S P i))) (schur F.ops (entry F.ops S) P i) S.width 0 (λ j h. same j (omega arith)))

-- what is written after all rows
pub profiled : (F : Lawful) (S : System) (P : Pivots) (list list' : List ℕ) → SamePivots P (eliminate F.ops S.width (entry F.ops S) (length S.rows)) → Filled P.count P.row list list' → Profiles F.ops S list list' P.count
profiled F S P list list' same W =
    let n = length S.rows in
    let A = entry F.ops S in
    let E = eliminate F.ops S.width A n in
    let long = pivot_rows-length F n S.width A E in
    record {
      count = same.count ∙ sym long;
      at_most = count-le_rows F n S.width A P (eliminated_pivots F S.width A n n (omega arith) P same);
      written = record {
        long = W.long;
        done = λ k h. W.done k (omega (arith, same.count)) ∙ same.row k (omega arith) ∙ sym (get_or-values E.count E.row k 0 (omega arith));
        kept = λ k h. W.kept k (omega (arith, same.count));
      };
      profile = rank_profile-RankProfile F n S.width A;
      least = (RankProfile-iff_LeastLongest F n S.width A (profile_of F.ops S)).0 (rank_profile-RankProfile F n S.width A);
    }

-- a row of the elimination, from what the code puts into its column question
module _ (F : Lawful) (S : System) (formed : WellFormed S) (P : Pivots) (I : PivotsOf F.ops (length S.rows) S.width (entry F.ops S) P) (i : ℕ) (there : i < length S.rows) (outside : Outside P.count P.row i)
    (z us : List ℕ) (n : ℕ) (many : n ≡ length S.rows) (zs : Begins P.count (row_coefficients F.ops (entry F.ops S) P i) z) (held : Distinct P.count P.row → Outside P.count P.row i → IsVector 96 (unit_minus F.ops i P.count P.row (slice_index z)) us)
    (r : Option ℕ) (found : r ≡ first_place F.ops S (about_columns (take n us))) where
  left : (j : ℕ) → value_at F.ops S (about_columns (u_of F.ops S P i)) j ≡ schur F.ops (entry F.ops S) P i j
  left j = column_left F S formed P I i j there

  first : first_place F.ops S (about_columns (u_of F.ops S P i)) ≡ r
  first = ap (first_place F.ops S) (sym (columns_asked F S formed P I i z us n many outside zs held)) ∙ sym found

  pub eliminated_row : with_row F.ops S.width (entry F.ops S) P i ≡ elim r [ None ↦ P | Some j ↦ grow F.ops (entry F.ops S) P i j ]
  eliminated_row = with_row-is F.ops S.width (entry F.ops S) P i r (fresh_asked F S P i (λ j h. left j) ∙ first)

  -- a fresh column has room for one pivot more
  pub fresh_room : (j : ℕ) → r ≡ Some j → record { room : P.count < 64; row : i < 96; minute : j < 64 }
  fresh_room j e =
      let t = first_true F.ops S (about_columns (u_of F.ops S P i)) (Some j) (first ∙ e) in
      let below = room F S P I i j there t.0 (λ zero. t.1 (left j ∙ zero)) in
      record { room = omega (arith, formed.few_minutes); row = omega (arith, formed.few_rows); minute = omega (arith, t.0, formed.few_minutes) }
