-- What a strike does to rows under notes. Assumes nothing.
use Rattle.std.proofs.Common.{◌≡◌, ℕ, List, [], Ok, Err, Option, Result, map, slice_set, refl, ap, ◌∙◌}
use Rattle.std.proofs.lemmas.List.{map-set}
use Rattle.field.specs.Laws.{Lawful}
use Rattle.rows.specs.Systems.{System, empty_row}
use Rattle.rows.specs.Values.{weighted}
use Rattle.rows.specs.Ledgers.{after_strike}
use Rattle.notes.specs.Notes.{row_under, system_under}

module _ (F : Lawful) (codes : List (Option ℕ)) where
  -- no weights take nothing from a sum of 0
  empty_under : row_under F.ops codes empty_row ≡ empty_row
  unfolding weighted
  empty_under = ap (λ b. record { sum = b; terms = [] }) (F.plus-negative 0)

  pub struck_under : {E : Type 0} (S : System) (i : ℕ) (answer : Result (Unit {0}) E) → system_under F.ops codes (after_strike answer S i) ≡ after_strike answer (system_under F.ops codes S) i
  struck_under S i (Ok u) =
      ap (λ rows. record { width = S.width; rows = rows })
      (map-set (row_under F.ops codes) S.rows i empty_row ∙ ap (slice_set (map (row_under F.ops codes) S.rows) i) empty_under)
  struck_under S i (Err e) = refl
