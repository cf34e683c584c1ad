-- What scouts mean. Assumes nothing.
use Rattle.std.specs.Prelude.{ℕ, Option}
use Rattle.field.specs.Operations.{Operations}
use Rattle.rows.specs.Systems.{System}
use Rattle.solver.specs.Questions.{Asked, first_place}

-- a scout with the states X: the answer that its present state gives to each question about rows,
-- and the state after it
pub record ScoutMeaning (X : Type 0) : Type 0 where
  pub answer : X → System → Asked → Option ℕ
  pub after : X → System → Asked → X

-- the scan names the first place whose value is not 0, and stays as it is
abbrev pub scan_meaning : {X : Type 0} → Operations → ScoutMeaning X
scan_meaning K = record { answer = λ scan S q. first_place K S q; after = λ scan S q. scan }
