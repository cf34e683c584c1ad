-- Rows under notes are rows. Assumes nothing.
use Rattle.std.specs.Prelude.{◌≡◌, ℕ, ◌<◌, List, Option, length, slice_index_or}
use Rattle.std.proofs.Common.{sym, subst, arith}
use Rattle.std.proofs.lemmas.List.{length-map, get_or-map, get_or_default}
use Rattle.std.proofs.lemmas.List.Elements.{All-filter}
use Rattle.std.proofs.lemmas.List.Kept.{AllPairs-filter}
use Rattle.field.specs.Operations.{Operations}
use Rattle.field.specs.Laws.{FieldLaws}
use Rattle.frame.specs.declared.terms.Term.{Term}
use Rattle.frame.specs.Frames.{no_term, minute_at}
use Rattle.rows.specs.Systems.{Row, System, empty_row, row_at, WellFormedRow, WellFormed}
use Rattle.rows.specs.Values.{weighted}
use Rattle.notes.specs.Notes.{noted_alone, open_terms, row_under, system_under}

module _ (K : Operations) (codes : List (Option ℕ)) where
  pub row_under_at : (S : System) (i : ℕ) → i < length S.rows →
      row_at (system_under K codes S) i ≡ row_under K codes (row_at S i)
  row_under_at S i h = get_or-map (row_under K codes) S.rows i empty_row empty_row h

  -- what every term keeps, read past the last term as another one
  open_all : (P : Term → Type 0) (ts : List Term) →
      ((k : ℕ) → k < length ts → P (slice_index_or ts k no_term)) →
      (k : ℕ) → k < length (open_terms codes ts) →
      P (slice_index_or (open_terms codes ts) k no_term)
  open_all P ts each k =
      All-filter _ P ts
      (λ k d h. subst P (get_or_default ts k no_term d h) (each k h)) k no_term

  module _ (L : FieldLaws K) (m : ℕ) (r : Row) (formed : WellFormedRow m r) where
    row_under_formed : WellFormedRow m (row_under K codes r)
    row_under_formed =
        let code = L.plus_code r.sum (K.negative (weighted K r.terms (noted_alone codes))) in
        let most = L.at_most in
        record {
          word = omega arith;
          below = open_all (λ t. t.minute < m) r.terms formed.below;
          rising = λ j k. AllPairs-filter (λ s t. s.minute < t.minute) _ r.terms (λ j k d l h.
              let first = get_or_default r.terms j no_term d (omega (arith, l, h)) in
              let second = get_or_default r.terms k no_term d h in
              subst (λ s. s.minute < (slice_index_or r.terms k d).minute) first
              (subst (λ t. minute_at r.terms j < t.minute) second (formed.rising j k l h)))
              j k no_term;
          words = open_all (λ t. t.weight < 65536) r.terms formed.words;
        }

  pub system_under_formed : (L : FieldLaws K) (S : System) →
      WellFormed S → WellFormed (system_under K codes S)
  system_under_formed L S formed =
      let long = length-map S.rows (row_under K codes) in
      record {
        some_minutes = formed.some_minutes;
        few_minutes = formed.few_minutes;
        few_rows = omega (arith, formed.few_rows);
        each = λ i h.
            let there : i < length S.rows = omega arith in
            subst (WellFormedRow S.width) (sym (row_under_at S i there))
            (row_under_formed L S.width (row_at S i) (formed.each i there));
      }
