-- Answers that refuse in order. Assumes nothing.
use Rattle.std.proofs.Common.{◌≡◌, ℕ, zero, suc, ◌+◌, ◌<◌, Bool, true, false, cond, List, [], ◌∷◌, length, get_or, Some, None, Ok, Err, Option, Result, sym, refl, ap, subst, ◌∙◌, inl, inr, le_of_suc-le-suc, not-suc-le-zero, arith, true≢false}
use Rattle.std.specs.Option.{MatchOption}
use Rattle.std.specs.List.{position_from}
use Rattle.std.specs.Result.{IsOk}
use Rattle.std.proofs.lemmas.Bool.{cases_lt}
use Rattle.frame.proofs.Apart.{err_ok}
use Rattle.frame.specs.Refusals.{RefusalCase, refused}
use Rattle.frame.specs.Orders.{Order, no_rule, rule, First, Nowhere, AtStart, RefusedBy, KeepsOrder, refuse, when}

-- found is the first place of P, or there is none
abbrev pub Finds : (ℕ → Type 0) → Option ℕ → Type 0
Finds P found = MatchOption found (Nowhere P) (First P)

-- an answer is no value and a refusal at once
err_not_ok : (X : Type 0) (r : RefusalCase) → IsOk {T = X} (Err r) → ⊥
err_not_ok X r e = true≢false (sym e)

-- there is one first place
first_unique : (P : ℕ → Type 0) (j k : ℕ) → First P j → First P k → j ≡ k
first_unique P j k f g =
    elim (cases_lt j k) [
      | inl less ↦ absurd (g.none_before j less f.there)
      | inr not_less ↦
          elim (cases_lt k j) [
            | inl more ↦ absurd (f.none_before k more g.there)
            | inr same ↦ omega arith
          ]
    ]

-- nothing is refused
pub accepted : {X : Type 0} (x : X) → KeepsOrder no_rule (Ok x)
accepted {X = X} x =
    record {
      refuses = λ r. (λ e. err_ok {X = X} r x (sym e), λ none. absurd none);
      accepts = (λ _. tt, λ _. refl);
    }

module _ {X : Type 0} (number : ℕ) (P : ℕ → Type 0) (later : Order) (rest : Result X RefusalCase) (kept : KeepsOrder later rest) where
  -- a refusal found is refused, and what comes later is not asked
  found_first : (place : ℕ) → First P place → KeepsOrder {X = X} (rule number P later) (Err (refused number place))
  found_first place first =
      record {
        refuses = λ r. (
          λ e.
              let same : refused number place ≡ r = cc in
              subst (RefusedBy (rule number P later)) same (inl (refl, first)),
          λ by. elim by [
            | inl it ↦
                ap (λ n. Err (refused n place)) (sym it.0)
                ∙ ap (λ p. Err (refused r.number p)) (first_unique P place r.place first it.1)
            | inr after ↦ absurd (after.0 place first.there)
          ],
        );
        accepts = (λ ok. absurd (err_not_ok X (refused number place) ok), λ none. absurd (none.0 place first.there));
      }

  passed_on : Nowhere P → KeepsOrder {X = X} (rule number P later) rest
  passed_on none =
      record {
        refuses = λ r. (
          λ e. inr (none, (kept.refuses r).0 e),
          λ by. elim by [
            | inl it ↦ absurd (none r.place it.1.there)
            | inr after ↦ (kept.refuses r).1 after.1
          ],
        );
        accepts = (λ ok. (none, kept.accepts.0 ok), λ all. kept.accepts.1 all.1);
      }

  -- one refusal more, before the others
  pub refused_first : (found : Option ℕ) → Finds P found → KeepsOrder (rule number P later) (refuse number found rest)
  refused_first None none = passed_on none
  refused_first (Some place) first = found_first place first

-- place 0 stands for a fact that a test decides
pub finds_when : (P : Type 0) (b : Bool) → (b ≡ true → P) → (b ≡ false → ¬ P) → Finds (AtStart P) (when b)
finds_when P true holds fails = record { there = (refl, holds refl); none_before = λ k h. absurd (not-suc-le-zero h) }
finds_when P false holds fails = λ k at. fails refl at.1

-- a search of a list finds the first place whose element passes the test
module _ {X : Type 0} (test : X → Bool) (d : X) where
  abbrev pub Passes : List X → ℕ → Type 0
  Passes xs k = (k < length xs) × (test (get_or xs k d) ≡ true)

  -- counted from `at`
  abbrev Counted : ℕ → (ℕ → Type 0) → Option ℕ → Type 0
  Counted at P found = MatchOption found (Nowhere P) (λ place. (k : ℕ) × (place ≡ at + k) × First P k)

  searched_on : (at : ℕ) (x : X) (xs : List X) (b : Bool) (found : Option ℕ) → test x ≡ b → Counted (at + 1) (Passes xs) found → Counted at (Passes (x ∷ xs)) (cond b (Some at) found)
  searched_on at x xs true found e later = (0, omega arith, record { there = (omega arith, e); none_before = λ k h. absurd (not-suc-le-zero h) })
  searched_on at x xs false None e later = none
    where
      none : Nowhere (Passes (x ∷ xs))
      none zero p = true≢false (sym p.1 ∙ e)
      none (suc k) p = later k (le_of_suc-le-suc p.0, p.1)
  searched_on at x xs false (Some place) e later = (suc later.0, omega (arith, later.1), record { there = (let l = later.2.there.0 in omega arith, later.2.there.1); none_before = before })
    where
      before : (k : ℕ) → k < suc later.0 → ¬ Passes (x ∷ xs) k
      before zero h p = true≢false (sym p.1 ∙ e)
      before (suc k) h p = later.2.none_before k (le_of_suc-le-suc h) (le_of_suc-le-suc p.0, p.1)

  searched : (at : ℕ) (xs : List X) → Counted at (Passes xs) (position_from test at xs)
  searched at [] = λ k p. absurd (not-suc-le-zero p.0)
  searched at (x ∷ xs) = searched_on at x xs (test x) (position_from test (at + 1) xs) refl (searched (at + 1) xs)

  from_start : (P : ℕ → Type 0) (found : Option ℕ) → Counted 0 P found → Finds P found
  from_start P None none = none
  from_start P (Some place) found = let same : found.0 ≡ place = omega (arith, found.1) in subst (First P) same found.2

  pub finds_position : (xs : List X) → Finds (Passes xs) (position_from test 0 xs)
  finds_position xs = from_start (Passes xs) (position_from test 0 xs) (searched 0 xs)

-- what is found of one kind is found of another that holds at the same places
module _ (P Q : ℕ → Type 0) (to : (k : ℕ) → P k → Q k) (back : (k : ℕ) → Q k → P k) where
  pub finds_same : (found : Option ℕ) → Finds P found → Finds Q found
  finds_same None none = λ k q. none k (back k q)
  finds_same (Some place) first = record { there = to place first.there; none_before = λ k h q. first.none_before k h (back k q) }
