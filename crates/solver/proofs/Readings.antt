-- Sums and weights that are read, 0 where there is nothing. Assumes nothing.
use Rattle.std.proofs.Common.{◌≡◌, ℕ, suc, zero, ◌%◌, ◌<◌, ◌≤◌, List, [], ◌∷◌, length, slice_index_or, refl, sym, ap, ◌∙◌, inl, inr, arith}
use Rattle.std.specs.List.{slice_get}
use Rattle.std.specs.Option.{unwrap_or, option_map}
use Rattle.std.proofs.lemmas.Bool.{cases_lt, lt-ltb, le-ltb}
use Rattle.std.proofs.lemmas.List.{get_or_past}
use Rattle.field.specs.Laws.{Lawful}
use Rattle.field.proofs.FieldLemmas.{zero-mod-q}
use Rattle.rows.specs.Systems.{Row, System, empty_row, row_at, sum_of_row, WellFormed}
use Rattle.rows.specs.Values.{entry, entry_of}
use Rattle.rows.specs.Systems.{sum_at}
use Rattle.solver.proofs.AddedRows.{weight_without}

sum_found : (rs : List Row) (i : ℕ) → unwrap_or (option_map (λ (r : Row). r.sum) (slice_get rs i)) 0 ≡ (slice_index_or rs i empty_row).sum
sum_found [] i = refl
sum_found (r ∷ rs) zero = refl
sum_found (r ∷ rs) (suc i) = sum_found rs i

pub sum_read : (S : System) (i : ℕ) → unwrap_or (sum_of_row S i) 0 ≡ sum_at S i
sum_read S i = sum_found S.rows i

module _ (F : Lawful) (S : System) (formed : WellFormed S) where
  -- there is nothing outside the matrix
  entry_below : (i c : ℕ) → length S.rows ≤ i → entry F.ops S i c ≡ 0
  entry_below i c past = rw (get_or_past S.rows i empty_row past) (zero-mod-q F)

  entry_right : (i c : ℕ) → i < length S.rows → S.width ≤ c → entry F.ops S i c ≡ 0
  entry_right i c here past =
      ap (λ w. w % F.ops.q) (weight_without (row_at S i).terms c (λ k h e. let b = (formed.each i here).below k h in omega arith)) ∙ zero-mod-q F

  pub entry_read : (i c : ℕ) → unwrap_or (entry_of F.ops S i c) 0 ≡ entry F.ops S i c
  entry_read i c =
      elim (cases_lt i (length S.rows)) [
        | inr past ↦ rw (le-ltb i (length S.rows) past) (sym (entry_below i c past))
        | inl here ↦
            elim (cases_lt c S.width) [
              | inr past ↦ rw (lt-ltb i (length S.rows) here, le-ltb c S.width past) (sym (entry_right i c here past))
              | inl inside ↦ rw (lt-ltb i (length S.rows) here, lt-ltb c S.width inside) refl
            ]
      ]
