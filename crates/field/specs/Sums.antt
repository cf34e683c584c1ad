-- Sums in a field. Assumes nothing.
use Rattle.std.specs.Prelude.{ℕ, zero, suc}
use Rattle.field.specs.Operations.{Operations}

-- f 0 + f 1 + .. + f (n − 1)
unfoldable pub Σ : Operations → ℕ → (ℕ → ℕ) → ℕ
Σ K zero f = 0
Σ K (suc n) f = K.plus (Σ K n f) (f n)
