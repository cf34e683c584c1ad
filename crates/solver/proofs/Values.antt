-- Values that are read one at a time. Assumes nothing.
use Rattle.std.proofs.Common.{◌≡◌, ℕ, ◌<◌, length, Some, ap}
use Rattle.std.proofs.lemmas.Option.{slice_get-get_or}
use Rattle.std.specs.Option.{option_map}
use Rattle.field.specs.Operations.{Operations}
use Rattle.rows.specs.Systems.{System, empty_row, row_at}
use Rattle.rows.specs.Values.{row_value, row_value_of}

-- the value of a row that is there
pub row_value-there : (K : Operations) (S : System) (x : ℕ → ℕ) (i : ℕ) → i < length S.rows → row_value_of K S i x ≡ Some (row_value K (row_at S i) x)
row_value-there K S x i h = ap (option_map (λ r. row_value K r x)) (slice_get-get_or S.rows i empty_row h)
