-- Known values, as statements of the definitions. Assumes nothing.
use Rattle.std.specs.Prelude.{◌≡◌, ℕ, List, [], ◌∷◌, Some, None, Option}
use Rattle.std.specs.Option.{option_map}
use Rattle.field.specs.Operations.{reciprocal}
use Rattle.field.specs.Modulo.{modulo}
use Rattle.field.specs.Octets.{octets, power}
use Rattle.frame.specs.declared.terms.Term.{Term}
use Rattle.frame.specs.declared.checks.TheConstants.{MOST_TERMS, MINUTES}
use Rattle.rows.specs.declared.sizes.TheConstants.{MOST_MINUTES, MOST_ROWS}
use Rattle.rows.specs.Systems.{Row, System, row_at}
use Rattle.rows.specs.Values.{choice, row_value, column_value}
use Rattle.notes.specs.Notes.{row_under}
use Rattle.solver.specs.declared.spaces.TheConstants.{WORK_WORDS}
use Rattle.solver.specs.Outcomes.{contradiction_case}
use Rattle.solver.specs.Profiling.{profile_of}
use Rattle.solver.specs.Scouts.{scan_meaning}
use Rattle.solver.specs.Runs.{Ran, whole_run, last_codes}

abbrev pub term : ℕ → ℕ → Term
term c w = record { minute = c; weight = w }

abbrev pub row : ℕ → List Term → Row
row b ts = record { sum = b; terms = ts }

-- x₀ = 5, x₀ + x₁ = 12, 2 · x₀ + x₁ = 18
abbrev pub three_rows : System
three_rows =
    record {
      width = 2;
      rows =
          row 5 (term 0 1 ∷ [])
          ∷ row 12 (term 0 1 ∷ term 1 1 ∷ [])
          ∷ row 18 (term 0 2 ∷ term 1 1 ∷ [])
          ∷ [];
    }

-- the rows (1,1), (2,2) and (0,1)
abbrev pub dependent_rows : System
dependent_rows =
    record {
      width = 2;
      rows =
          row 0 (term 0 1 ∷ term 1 1 ∷ [])
          ∷ row 0 (term 0 2 ∷ term 1 2 ∷ [])
          ∷ row 0 (term 1 1 ∷ [])
          ∷ [];
    }

-- a settle of rows in the integers modulo 65521 by the scan
abbrev pub settled : System → Option (Ran (Unit {0}))
settled S = whole_run (modulo 65521) S (scan_meaning (modulo 65521)) tt

pub record WorkedFacts : Type 0 where
  -- in the integers modulo 65521
  pub prime_product : (modulo 65521).times 256 256 ≡ 15
  pub prime_inverse : reciprocal (modulo 65521) 2 ≡ Some 32761
  -- in the octets
  pub octet_product : octets.times 2 128 ≡ 29
  pub octet_inverse : reciprocal octets 2 ≡ Some 142
  pub octet_power : power 255 ≡ 1
  -- 5 and 7 leave 1 of the third row, though its terms are those of the others added up:
  -- (−1, −1, 1) makes each column 0
  pub third_row_left : row_value (modulo 65521) (row_at three_rows 2) (choice (5 ∷ 7 ∷ [])) ≡ 1
  pub first_column : column_value (modulo 65521) three_rows (choice (65520 ∷ 65520 ∷ 1 ∷ [])) 0 ≡ 0
  pub last_column : column_value (modulo 65521) three_rows (choice (65520 ∷ 65520 ∷ 1 ∷ [])) 1 ≡ 0
  -- with 7 noted for the last minute
  pub third_row_noted :
      row_under (modulo 65521) (None ∷ Some 7 ∷ []) (row_at three_rows 2)
      ≡ row 11 (term 0 2 ∷ [])
  -- of the rows (1,1), (2,2) and (0,1) the second is a combination of the first
  pub profile : profile_of (modulo 65521) dependent_rows ≡ 0 ∷ 2 ∷ []
  -- the settle of the three rows ends, after six questions and with two pivots, with this
  -- contradiction
  pub contradiction :
      option_map (λ r. r.outcome) (settled three_rows) ≡ Some (contradiction_case 2 6)
  pub blame :
      option_map (λ r. last_codes r.exchanges) (settled three_rows)
      ≡ Some (65520 ∷ 65520 ∷ 1 ∷ [])
  -- the numbers that constants name: terms of a frame, minutes of a frame and of an hour, rows of a
  -- ledger, words of a work space
  pub most_terms : MOST_TERMS ≡ 16
  pub minutes : MINUTES ≡ 64
  pub most_minutes : MOST_MINUTES ≡ 64
  pub most_rows : MOST_ROWS ≡ 96
  pub work_words : WORK_WORDS ≡ 8192
