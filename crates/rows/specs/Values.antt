-- The matrix of rows, and the values of a row and of a column, in any field. Assumes nothing.
use Rattle.std.specs.Prelude.{◌≡◌, ℕ, ◌%◌, ◌<◌, cond, List, [], ◌∷◌, length, Some, None, Option}
use Rattle.std.specs.Prelude.{◌==◌, ◌≢◌, ◌↔◌, nat_lt, slice_index}
use Rattle.std.specs.List.{slice_get}
use Rattle.std.specs.Option.{option_map}
use Rattle.field.specs.Operations.{Operations}
use Rattle.field.specs.Sums.{Σ}
use Rattle.frame.specs.declared.terms.Term.{Term}
use Rattle.rows.specs.Systems.{Row, System, row_at}

-- a slice's numbers as a choice of minutes: past its end a number is 0
abbrev pub choice : List ℕ → ℕ → ℕ
choice xs c = slice_index xs c

-- the weight at a minute, 0 without such a term
abbrev pub weight_for : List Term → ℕ → ℕ
weight_for [] c = 0
weight_for (t ∷ ts) c = cond (t.minute == c) t.weight (weight_for ts c)

-- A[i,c], as a code
abbrev pub entry : Operations → System → ℕ → ℕ → ℕ
entry K S i c = weight_for (row_at S i).terms c % K.q

-- the same, none outside the matrix
abbrev pub entry_of : Operations → System → ℕ → ℕ → Option ℕ
entry_of K S i c =
    cond (nat_lt i (length S.rows)) (cond (nat_lt c S.width) (Some (entry K S i c)) None) None

-- the weights times the codes that x has at their minutes, added up
unfoldable pub weighted : Operations → List Term → (ℕ → ℕ) → ℕ
weighted K [] x = 0
weighted K (t ∷ ts) x = K.plus (K.times t.weight (x t.minute)) (weighted K ts x)

-- what is left of a row's sum: a place of b − Ax
abbrev pub row_value : Operations → Row → (ℕ → ℕ) → ℕ
row_value K r x = K.plus r.sum (K.negative (weighted K r.terms x))

-- the same, none for a row that does not exist
abbrev pub row_value_of : Operations → System → ℕ → (ℕ → ℕ) → Option ℕ
row_value_of K S i x = option_map (λ r. row_value K r x) (slice_get S.rows i)

-- a place of uA
abbrev pub column_value : Operations → System → (ℕ → ℕ) → ℕ → ℕ
column_value K S u c = Σ K (length S.rows) (λ i. K.times (u i) (entry K S i c))

-- a choice of minutes satisfies a row: the weights times its codes add up to the sum
abbrev pub Satisfies : Operations → Row → (ℕ → ℕ) → Type 0
Satisfies K r x = weighted K r.terms x ≡ r.sum % K.q

abbrev pub SatisfiesAll : Operations → System → (ℕ → ℕ) → Type 0
SatisfiesAll K S x = (i : ℕ) → i < length S.rows → Satisfies K (row_at S i) x

-- each row but row i is satisfied by the same choices in the one system as in the other
abbrev pub OthersSatisfied : System → System → ℕ → Type 0
OthersSatisfied S T i =
    (K : Operations) (x : ℕ → ℕ) (k : ℕ) → k ≢ i →
    Satisfies K (row_at S k) x ↔ Satisfies K (row_at T k) x

-- a row's value is a code, and 0 just where the row is satisfied
pub record ValueTells (K : Operations) (r : Row) (x : ℕ → ℕ) : Type 0 where
  pub code : row_value K r x < K.q
  pub zero_satisfies : row_value K r x ≡ 0 → Satisfies K r x
  pub satisfied_zero : Satisfies K r x → row_value K r x ≡ 0
