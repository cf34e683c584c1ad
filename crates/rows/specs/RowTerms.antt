-- The terms of a row that are still to come. Assumes nothing.
use Rattle.std.specs.Prelude.{ℕ, List, Option, take, drop}
use Rattle.std.specs.List.{slice_get}
use Rattle.std.specs.Option.{option_map}
use Rattle.frame.specs.declared.terms.Term.{Term}
use Rattle.rows.specs.declared.terms.RowTerms.{RowTerms}
use Rattle.rows.specs.Systems.{System, row_at}

-- the terms of a row, none where there is no such row
abbrev pub terms_of_row : System → ℕ → Option (List Term)
terms_of_row S i = option_map (λ r. r.terms) (slice_get S.rows i)

-- the terms from one number up to another
abbrev pub terms_left : {X : Type 0} → (X → System) → RowTerms X → List Term
terms_left system ts =
    drop ts.numbers.start (take ts.numbers.end (row_at (system ts.rows.now) ts.row).terms)
