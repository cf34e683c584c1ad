-- Refusals in order: which of several comes first, and at which place. Assumes nothing.
use Rattle.std.specs.Prelude.{◌≡◌, ℕ, ◌<◌, ◌⊎◌, ◌↔◌, ⊤, Bool, cond, Some, None, Err, Option, Result}
use Rattle.std.specs.Prelude.{IsOk}
use Rattle.frame.specs.Refusals.{RefusalCase, refused}

-- what is refused, the earlier first: by which number, and at which places
pub data Order : Type 1 where
  no_rule : Order
  rule : ℕ → (ℕ → Type 0) → Order → Order

-- the first place where P holds
pub record First (P : ℕ → Type 0) (place : ℕ) : Type 0 where
  pub there : P place
  pub none_before : (k : ℕ) → k < place → ¬ P k

-- P holds at no place
abbrev pub Nowhere : (ℕ → Type 0) → Type 0
Nowhere P = (k : ℕ) → ¬ P k

-- P has no place of its own: place 0 stands for it
abbrev pub AtStart : Type 0 → ℕ → Type 0
AtStart P k = (k ≡ 0) × P

-- refused by this number at this place: no earlier refusal of the order applies, and the place is
-- the first of its kind
abbrev pub RefusedBy : Order → RefusalCase → Type 0
RefusedBy no_rule r = ⊥
RefusedBy (rule number P later) r =
    ((r.number ≡ number) × First P r.place) ⊎ (Nowhere P × RefusedBy later r)

-- no refusal of the order applies
abbrev pub Unrefused : Order → Type 0
Unrefused no_rule = ⊤
Unrefused (rule number P later) = Nowhere P × Unrefused later

-- an answer that keeps the order: it refuses by a number at a place exactly where that is the first
-- refusal, and accepts where there is none
pub record KeepsOrder {X : Type 0} (order : Order) (answer : Result X RefusalCase) : Type 0 where
  pub refuses : (r : RefusalCase) → (answer ≡ Err r) ↔ RefusedBy order r
  pub accepts : IsOk answer ↔ Unrefused order

-- the refusal of the first place, where there is one, and else what comes later
abbrev pub refuse : {X : Type 0} → ℕ → Option ℕ → Result X RefusalCase → Result X RefusalCase
refuse number None later = later
refuse number (Some place) later = Err (refused number place)

-- place 0 where a test holds
abbrev pub when : Bool → Option ℕ
when b = cond b (Some 0) None
