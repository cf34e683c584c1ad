-- A test of all numbers below a bound, to be computed. Assumes nothing.
use Rattle.std.specs.Prelude.{◌≡◌, ℕ, zero, suc, ◌<◌, Bool, true, false, nat_eq, refl}
use Rattle.std.proofs.Common.{ap, ◌∙◌, inl, inr, arith, eqb-true, eq-or-lt_of_le, le_of_suc-le-suc}

abbrev pub all_below : (ℕ → Bool) → ℕ → Bool
all_below test zero = true
all_below test (suc n) = elim (test n) [ true ↦ all_below test n | false ↦ false ]

-- a test that goes on only where another passed
pub both : (s t : Bool) → elim s [ true ↦ t | false ↦ false ] ≡ true → (s ≡ true) × (t ≡ true)
both true t e = (refl, e)
both false t e = (e, cc)

pub all_below_lem : (test : ℕ → Bool) (n : ℕ) → all_below test n ≡ true → (k : ℕ) → k < n → test k ≡ true
all_below_lem test zero e k h = absurd (omega arith)
all_below_lem test (suc n) e k h =
    let passed = both (test n) (all_below test n) e in
    elim (eq-or-lt_of_le (le_of_suc-le-suc h)) [ inl same ↦ ap test same ∙ passed.0 | inr less ↦ all_below_lem test n passed.1 k less ]

-- two functions agree below n: a test of one, two and three places
pub equal_below : (f g : ℕ → ℕ) (n : ℕ) → all_below (λ i. nat_eq (f i) (g i)) n ≡ true → (i : ℕ) → i < n → f i ≡ g i
equal_below f g n e i h = eqb-true (f i) (g i) (all_below_lem (λ i. nat_eq (f i) (g i)) n e i h)

pub equal_pairs : (f g : ℕ → ℕ → ℕ) (n : ℕ) → all_below (λ i. all_below (λ j. nat_eq (f i j) (g i j)) n) n ≡ true → (i j : ℕ) → i < n → j < n → f i j ≡ g i j
equal_pairs f g n e i j hi hj = equal_below (f i) (g i) n (all_below_lem (λ i. all_below (λ j. nat_eq (f i j) (g i j)) n) n e i hi) j hj

pub equal_triples : (f g : ℕ → ℕ → ℕ → ℕ) (n : ℕ) → all_below (λ i. all_below (λ j. all_below (λ k. nat_eq (f i j k) (g i j k)) n) n) n ≡ true → (i j k : ℕ) → i < n → j < n → k < n → f i j k ≡ g i j k
equal_triples f g n e i j k hi hj hk =
    equal_pairs (f i) (g i) n (all_below_lem (λ i. all_below (λ j. all_below (λ k. nat_eq (f i j k) (g i j k)) n) n) n e i hi) j k hj hk
