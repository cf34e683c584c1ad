-- However many caps stand over a ledger, they mean what it means. Assumes nothing.
use Rattle.std.proofs.Common.{◌≡◌, ℕ, zero, suc, min, refl, ap}
use Rattle.rows.specs.Systems.{System}
use Rattle.rows.specs.Caps.{NestedCaps, nested_system, nested_limit, base, smallest, NestedCapsLaw}

module _ {X : Type 0} (system : X → System) (most : X → ℕ) where
  meaning : (n : ℕ) (p : NestedCaps n X) → nested_system X n system p ≡ system (base X n p)
  meaning zero p = refl
  meaning (suc n) p = meaning n p.below

  limit : (n : ℕ) (p : NestedCaps n X) → nested_limit X n most p ≡ smallest X n p (most (base X n p))
  limit zero p = refl
  limit (suc n) p = ap (min p.own.number) (limit n p.below)

  pub nested_law : NestedCapsLaw system most
  nested_law = record { meaning = meaning; limit = limit }
