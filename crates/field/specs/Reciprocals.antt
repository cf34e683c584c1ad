-- The reciprocal, found by a search from 0. Assumes nothing.
use Rattle.std.specs.Prelude.{◌≡◌, ℕ, zero, suc, ◌+◌, ◌<◌, ◌≤◌, Bool, true, false, Some, None, Option, ◌≢◌, nat_eq, refl}
use Rattle.std.proofs.Common.{sym, ap, ◌∙◌, inl, inr, arith, eq-or-lt_of_le, eqb-true, eq-eqb}
use Rattle.std.specs.Option.{unwrap_or}
use Rattle.field.specs.Operations.{Operations, first_from, reciprocal, inverse}

-- where a search ends with a number, that number passes, and is one of those searched
pub first_from-some : (test : ℕ → Bool) (count from b : ℕ) → first_from test count from ≡ Some b → (test b ≡ true) × (b < from + count)
unfolding first_from
first_from-some test zero from b e = let z : ◌≡◌ {A = ℕ} 0 1 = cc in absurd (omega arith)
first_from-some test (suc count) from b e =
    (elim (test from) as (λ t. test from ≡ t → elim t [ true ↦ Some from | false ↦ first_from test count (suc from) ] ≡ Some b → (test b ≡ true) × (b < from + suc count)) [
      | true ↦ λ p e. let same : from ≡ b = cc in (ap test (sym same) ∙ p, omega arith)
      | false ↦ λ p e. let later = first_from-some test count (suc from) b e in (later.0, omega arith)
    ])
    refl
    e

-- where it ends with none, no number that was searched passes
pub first_from-none : (test : ℕ → Bool) (count from b : ℕ) → first_from test count from ≡ None → from ≤ b → b < from + count → test b ≢ true
unfolding first_from
first_from-none test zero from b e l h p = omega arith
first_from-none test (suc count) from b e l h p =
    (elim (test from) as (λ t. test from ≡ t → ◌≡◌ {A = Option ℕ} (elim t [ true ↦ Some from | false ↦ first_from test count (suc from) ]) None → ⊥) [
      | true ↦ λ f e. let z : ◌≡◌ {A = ℕ} 0 1 = cc in omega arith
      | false ↦ λ f e.
          elim (eq-or-lt_of_le l) [
            | inl same ↦ let z : true ≡ false = sym p ∙ ap test (sym same) ∙ f in let z : ◌≡◌ {A = ℕ} 0 1 = cc in omega arith
            | inr less ↦ first_from-none test count (suc from) b e less (omega arith) p
          ]
    ])
    refl
    e

module _ (K : Operations) (a : ℕ) where
  pub some_times : (b : ℕ) → reciprocal K a ≡ Some b → (K.times a b ≡ 1) × (b < K.q)
  unfolding reciprocal
  some_times b e = let f = first_from-some (λ b. nat_eq (K.times a b) 1) K.q 0 b e in (eqb-true (K.times a b) 1 f.0, omega (arith, f.1))

  pub none_times : reciprocal K a ≡ None → (b : ℕ) → b < K.q → K.times a b ≢ 1
  unfolding reciprocal
  none_times e b h p = first_from-none (λ b. nat_eq (K.times a b) 1) K.q 0 b e (omega arith) (omega arith) (eq-eqb (K.times a b) 1 p)

  -- the two ways a reciprocal comes out
  pub ways : (P : Option ℕ → Type 0) → (reciprocal K a ≡ None → P None) → ((b : ℕ) → reciprocal K a ≡ Some b → P (Some b)) → P (reciprocal K a)
  ways P none some = (elim (reciprocal K a) as (λ r. reciprocal K a ≡ r → P r) [ None ↦ none | Some b ↦ some b ]) refl

  pub inverse_code : 0 < K.q → inverse K a < K.q
  unfolding inverse
  inverse_code h = ways (λ r. unwrap_or r 0 < K.q) (λ e. h) (λ b e. (some_times b e).1)

  -- whatever code makes a product of 1, the inverse does
  pub inverse_works : (b : ℕ) → b < K.q → K.times a b ≡ 1 → K.times a (inverse K a) ≡ 1
  unfolding inverse
  inverse_works b h p = ways (λ r. K.times a (unwrap_or r 0) ≡ 1) (λ e. absurd (none_times e b h p)) (λ c e. (some_times c e).0)

  pub found_inverse : (b : ℕ) → b < K.q → K.times a b ≡ 1 → reciprocal K a ≡ Some (inverse K a)
  unfolding inverse
  found_inverse b h p = ways (λ r. r ≡ Some (unwrap_or r 0)) (λ e. absurd (none_times e b h p)) (λ c e. refl)
