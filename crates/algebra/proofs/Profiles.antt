-- The row rank profile: the elimination finds it, and it is the least of the longest independent lists. Assumes nothing.
use Rattle.std.proofs.Common.{◌≡◌, ◌≢◌, ℕ, ◌+◌, ◌<◌, ◌≤◌, ◌↔◌, List, length, get_or, slice_index, Greater, sym, refl, ap, subst, ◌∙◌, inl, inr, arith}
use Rattle.std.specs.Ordering.{nat_cmp}
use Rattle.std.specs.Cmp.Lexicographic.{slice_cmp}
use Rattle.std.proofs.lemmas.Bool.{cases_eq, cases_lt}
use Rattle.std.proofs.lemmas.List.FromFn.{length-map-range_with_len}
use Rattle.field.specs.Laws.{Lawful}
use Rattle.algebra.specs.Vectors.{rows_at}
use Rattle.algebra.specs.Spans.{InSpan}
use Rattle.algebra.specs.Pivots.{Pivots, PivotsOf, schur, grow}
use Rattle.algebra.specs.Profiles.{InProfile, RankProfile, IndependentRows, LeastLongest, Elimination, eliminate, pivot_rows, rank_profile, rank}
use Rattle.algebra.specs.Theorems.{RankLaws, EliminationLaws, ProfileLaws}
use Rattle.algebra.proofs.Counting.{get_or-values}
use Rattle.algebra.proofs.Spans.{InSpan-congr, Independent-congr, not_InSpan-of_Independent}
use Rattle.algebra.proofs.Pivots.{pivot_rows-Independent, InSpan-of_schur}
use Rattle.algebra.proofs.Growth.{grow-PivotsOf}
use Rattle.algebra.proofs.Exchange.{le-of_Independent}
use Rattle.algebra.proofs.Lists.{not_Greater, same-of_not_Greater, same-of_rising}
use Rattle.algebra.proofs.Elimination.{Elimination-start, Elimination-stay, Elimination-grow, InSpan-of_pivots, InSpan-of_all_pivots, InProfile-of_pivot, index-lt_of_row, eliminate-Elimination}

module _ (F : Lawful) (n m : ℕ) (A : ℕ → ℕ → ℕ) where
  module _ (S : Pivots) where
    pub pivot_rows-length : length (pivot_rows S) ≡ S.count
    pivot_rows-length = length-map-range_with_len S.row 0 S.count

    at : (k d : ℕ) → k < S.count → get_or (pivot_rows S) k d ≡ S.row k
    at = get_or-values S.count S.row

    -- pivot rows, as a list, are independent rows
    pub pivot_rows-IndependentRows : PivotsOf F.ops n m A S → IndependentRows F.ops n m A (pivot_rows S)
    pivot_rows-IndependentRows I =
        record {
          below = λ k d h. let l = pivot_rows-length in let a = at k d (omega arith) in let b = I.rows_below k (omega arith) in omega arith;
          independent =
              Independent-congr F m S.count (length (pivot_rows S)) (rows_at A S.row) (rows_at A (slice_index (pivot_rows S))) (sym pivot_rows-length)
              (λ k h j. ap (λ r. A r j) (sym (at k 0 h)))
              (pivot_rows-Independent F n m A S I);
        }

  module _ (S : Pivots) (E : Elimination F.ops m A n S) where
    -- the pivot rows of an elimination are the profile of its rows
    pub pivot_rows-RankProfile : RankProfile F.ops n m A (pivot_rows S)
    pivot_rows-RankProfile =
        record {
          rising = λ k h. let l = pivot_rows-length S in let a = at S k 0 (omega arith) in let b = at S (k + 1) 0 (omega arith) in let r = E.rising k (k + 1) (omega arith) (omega arith) in omega arith;
          members = λ i. (
            λ is.
                let l = pivot_rows-length S in
                let e = sym (at S is.0 i (omega (arith, is.1))) ∙ is.2 in
                subst (λ r. (r < n) × InProfile F.ops m A r) e (E.pivots.rows_below is.0 (omega (arith, is.1)), InProfile-of_pivot F m A n S E is.0 (omega (arith, is.1))),
            λ new.
                elim (E.others i new.0) [
                  | inl pivot ↦ (pivot.0, (let l = pivot_rows-length S in omega (arith, pivot.1)), at S pivot.0 i pivot.1 ∙ pivot.2)
                  | inr is ↦ absurd (new.1 is)
                ],
          );
        }

    module _ (ys : List ℕ) (I : IndependentRows F.ops n m A ys) where
      most : length ys ≤ S.count
      most = le-of_Independent F m (length ys) S.count (rows_at A S.row) (rows_at A (slice_index ys)) I.independent
          (λ k h. InSpan-of_all_pivots F m A n S E (slice_index ys k) (I.below k 0 h))

      least : length ys ≡ length (pivot_rows S) → slice_cmp nat_cmp (pivot_rows S) ys ≢ Greater
      least e =
          not_Greater (pivot_rows S) ys e
          (λ k h agree.
          let l = pivot_rows-length S in
          let a = at S k 0 (omega arith) in
          elim (cases_lt (slice_index ys k) (S.row k)) [
            | inr more ↦ omega arith
            | inl less ↦
                absurd
                (not_InSpan-of_Independent F m (length ys) k (rows_at A (slice_index ys)) I.independent (omega arith)
                (InSpan-congr F m k k (rows_at A S.row) (rows_at A (slice_index ys)) (A (slice_index ys k)) refl
                (λ j hj c. ap (λ r. A r c) (sym (at S j 0 (omega arith)) ∙ agree j hj))
                (InSpan-of_pivots F m A n S E k (S.row k) (omega arith) (let b = E.pivots.rows_below k (omega arith) in omega arith)
                (λ i hi less. index-lt_of_row F m A n S E k i (omega arith) hi less) (slice_index ys k) less)))
          ])

    pub pivot_rows-LeastLongest : LeastLongest F.ops n m A (pivot_rows S)
    pivot_rows-LeastLongest =
        record {
          independent = pivot_rows-IndependentRows S E.pivots;
          longest = λ ys I. let l = pivot_rows-length S in let h = most ys I in omega arith;
          least = least;
        }

  pub RankProfile-unique : (xs ys : List ℕ) → RankProfile F.ops n m A xs → RankProfile F.ops n m A ys → xs ≡ ys
  RankProfile-unique xs ys X Y =
      same-of_rising xs ys X.rising Y.rising
      (λ i is. (Y.members i).1 ((X.members i).0 is))
      (λ i is. (X.members i).1 ((Y.members i).0 is))

  pub LeastLongest-unique : (xs ys : List ℕ) → LeastLongest F.ops n m A xs → LeastLongest F.ops n m A ys → xs ≡ ys
  LeastLongest-unique xs ys X Y =
      let some = Y.longest xs X.independent in
      let more = X.longest ys Y.independent in
      same-of_not_Greater xs ys (X.least ys Y.independent (omega arith)) (Y.least xs X.independent (omega arith))

  found : Elimination F.ops m A n (eliminate F.ops m A n)
  found = eliminate-Elimination F m A n

  pub rank_profile-RankProfile : RankProfile F.ops n m A (rank_profile F.ops n m A)
  rank_profile-RankProfile = pivot_rows-RankProfile (eliminate F.ops m A n) found

  -- the two ways to say which list is the profile
  pub RankProfile-iff_LeastLongest : (xs : List ℕ) → RankProfile F.ops n m A xs ↔ LeastLongest F.ops n m A xs
  RankProfile-iff_LeastLongest xs =
      let S = eliminate F.ops m A n in (
        λ X. subst (LeastLongest F.ops n m A) (RankProfile-unique (pivot_rows S) xs rank_profile-RankProfile X) (pivot_rows-LeastLongest S found),
        λ X. subst (RankProfile F.ops n m A) (LeastLongest-unique (pivot_rows S) xs (pivot_rows-LeastLongest S found) X) rank_profile-RankProfile,
      )

  pub RankProfile-length : (xs : List ℕ) → RankProfile F.ops n m A xs → length xs ≡ rank F.ops n m A
  RankProfile-length xs X = ap length (RankProfile-unique xs (rank_profile F.ops n m A) X rank_profile-RankProfile) ∙ pivot_rows-length (eliminate F.ops m A n)

  pub RankProfile-spans : (xs : List ℕ) → RankProfile F.ops n m A xs → (r : ℕ) → r < n → InSpan F.ops m (length xs) (rows_at A (slice_index xs)) (A r)
  RankProfile-spans xs X r h =
      let S = eliminate F.ops m A n in
      subst (λ xs. InSpan F.ops m (length xs) (rows_at A (slice_index xs)) (A r)) (RankProfile-unique (pivot_rows S) xs rank_profile-RankProfile X)
      (InSpan-congr F m S.count (length (pivot_rows S)) (rows_at A S.row) (rows_at A (slice_index (pivot_rows S))) (A r) (sym (pivot_rows-length S)) (λ k hk j. ap (λ r. A r j) (sym (at S k 0 hk))) (InSpan-of_all_pivots F m A n S found r h))

  -- pivots are at most the rank, and where they are as many they span all rows
  pub count-le_rank : (S : Pivots) → PivotsOf F.ops n m A S → S.count ≤ rank F.ops n m A
  count-le_rank S I =
      let T = eliminate F.ops m A n in
      le-of_Independent F m S.count T.count (rows_at A T.row) (rows_at A S.row) (pivot_rows-Independent F n m A S I)
      (λ k h. InSpan-of_all_pivots F m A n T found (S.row k) (I.rows_below k h))

  pub InSpan-of_rank : (S : Pivots) → PivotsOf F.ops n m A S → S.count ≡ rank F.ops n m A → (i : ℕ) → i < n → InSpan F.ops m S.count (rows_at A S.row) (A i)
  InSpan-of_rank S I full i h =
      InSpan-of_schur F n m A S I i
      (λ j hj.
      elim (cases_eq (schur F.ops A S i j) 0) [
        | inl none ↦ none
        | inr some ↦ let more = count-le_rank (grow F.ops A S i j) (grow-PivotsOf F n m A S i j I h hj some) in absurd (omega arith)
      ])

  pub rank_laws : (S : Pivots) → PivotsOf F.ops n m A S → RankLaws F.ops n m A S
  rank_laws S I = record { at_most = count-le_rank S I; spanned = InSpan-of_rank S I }

  pub profile_laws : ProfileLaws F.ops n m A
  profile_laws =
      record {
        computed = rank_profile-RankProfile;
        unique = RankProfile-unique;
        least_longest = RankProfile-iff_LeastLongest;
        spans = RankProfile-spans;
        rank_length = RankProfile-length;
      }

pub elimination_laws : (F : Lawful) (m : ℕ) (A : ℕ → ℕ → ℕ) → EliminationLaws F.ops m A
elimination_laws F m A =
    record {
      start = Elimination-start F m A;
      stay = Elimination-stay F m A;
      grow = Elimination-grow F m A;
      run = eliminate-Elimination F m A;
      profile = λ i. pivot_rows-RankProfile F i m A;
      spans = InSpan-of_all_pivots F m A;
    }
