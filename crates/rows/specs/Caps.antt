-- What a cap means, from what the ledger below it means. Assumes nothing.
use Rattle.std.specs.Prelude.{◌≡◌, ℕ, zero, suc, min, List, ◌∷◌}
use Rattle.rows.specs.declared.caps.Cap.{Cap}
use Rattle.rows.specs.Systems.{System}

-- a cap's own number, and the ledger below
abbrev pub own_number : {X : Type 0} → Cap X → ℕ
own_number cap = cap.own.number

abbrev pub ledger_below : {X : Type 0} → Cap X → X
ledger_below cap = cap.below

-- the rows are those below
abbrev pub cap_system : {X : Type 0} → (X → System) → Cap X → System
cap_system system cap = system cap.below

-- the limit is the smaller one
abbrev pub cap_limit : {X : Type 0} → (X → ℕ) → Cap X → ℕ
cap_limit most cap = min cap.own.number (most cap.below)

-- its own number, before the limits below
abbrev pub cap_limits : {X : Type 0} → (X → List ℕ) → Cap X → List ℕ
cap_limits limits cap = cap.own.number ∷ limits cap.below

-- the same for one cap over another
abbrev pub two_caps_system : {X : Type 0} → (X → System) → Cap (Cap X) → System
two_caps_system system = cap_system (cap_system system)

abbrev pub two_caps_limit : {X : Type 0} → (X → ℕ) → Cap (Cap X) → ℕ
two_caps_limit most = cap_limit (cap_limit most)

abbrev pub two_caps_limits : {X : Type 0} → (X → List ℕ) → Cap (Cap X) → List ℕ
two_caps_limits limits = cap_limits (cap_limits limits)

-- n caps over X
abbrev pub NestedCaps : ℕ → Type 0 → Type 0
NestedCaps zero X = X
NestedCaps (suc n) X = Cap (NestedCaps n X)

abbrev pub nested_system : (X : Type 0) (n : ℕ) → (X → System) → NestedCaps n X → System
nested_system X zero system = system
nested_system X (suc n) system = cap_system (nested_system X n system)

abbrev pub nested_limit : (X : Type 0) (n : ℕ) → (X → ℕ) → NestedCaps n X → ℕ
nested_limit X zero most = most
nested_limit X (suc n) most = cap_limit (nested_limit X n most)

-- the ledger below them all
abbrev pub base : (X : Type 0) (n : ℕ) → NestedCaps n X → X
base X zero p = p
base X (suc n) p = base X n p.below

-- the smallest of a number and those of the caps
abbrev pub smallest : (X : Type 0) (n : ℕ) → NestedCaps n X → ℕ → ℕ
smallest X zero p k = k
smallest X (suc n) p k = min p.own.number (smallest X n p.below k)

-- however many caps stand over a ledger: they mean what it means, and the smallest limit counts
pub record NestedCapsLaw {X : Type 0} (system : X → System) (most : X → ℕ) : Type 0 where
  pub meaning : (n : ℕ) (p : NestedCaps n X) → nested_system X n system p ≡ system (base X n p)
  pub limit : (n : ℕ) (p : NestedCaps n X) →
      nested_limit X n most p ≡ smallest X n p (most (base X n p))
