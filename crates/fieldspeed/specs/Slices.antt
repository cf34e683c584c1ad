-- Slices of products and of inverses. Assumes nothing.
use Rattle.std.specs.Prelude.{ℕ, min, List, length, slice_index}
use Rattle.field.specs.Operations.{Operations, inverse}
use Rattle.field.specs.Slices.{Filled}

abbrev pub product : Operations → List ℕ → List ℕ → ℕ → ℕ
product K a b k = K.times (slice_index a k) (slice_index b k)

abbrev pub inverted : Operations → List ℕ → ℕ → ℕ
inverted K a k = inverse K (slice_index a k)

-- the products at each place that all three slices have
abbrev pub Products : Operations → List ℕ → List ℕ → List ℕ → List ℕ → Type 0
Products K a b before after = Filled (min (length before) (min (length a) (length b))) (product K a b) before after

-- the inverses, 0 where there is none, at each place that both slices have
abbrev pub Inverses : Operations → List ℕ → List ℕ → List ℕ → Type 0
Inverses K a before after = Filled (min (length before) (length a)) (inverted K a) before after
