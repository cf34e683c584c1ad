-- An answer verified. Assumes nothing.
use Rattle.std.proofs.Common.{◌≡◌, ◌≢◌, ℕ, ◌<◌, ◌==◌, not, true, cond, Some, None, Ok, Err, Option, Result, subst, sym, refl, ap, ◌∙◌, inl, inr, arith}
use Rattle.std.proofs.lemmas.Bool.{cases_eq, cases_lt, eq-eqb, ne_eqb, lt-ltb, le-ltb, true≢false}
use Rattle.field.specs.Operations.{Operations}
use Rattle.field.specs.Reciprocals.{first_from-some, first_from-none}
use Rattle.rows.specs.Systems.{System}
use Rattle.solver.specs.declared.faults.Fault.TheVariants.{Missed, Zero, NoPlace}
use Rattle.solver.specs.Outcomes.{Case, fault_case}
use Rattle.solver.specs.Questions.{Asked, place_count, value_at, value_of, first_place, none_verified, place_verified, verified, TrueAnswer, FalseAnswer, Verifies}

module _ (K : Operations) (S : System) (q : Asked) where
  abbrev n : ℕ
  n = place_count S q

  abbrev v : ℕ → ℕ
  v = value_at K S q

  not_zero : (i : ℕ) → not (v i == 0) ≡ true → v i ≢ 0
  not_zero i t z = true≢false (sym t ∙ ap not (eq-eqb (v i) 0 z))

  zero : (i : ℕ) → not (v i == 0) ≢ true → v i ≡ 0
  zero i t =
      elim (cases_eq (v i) 0) [
        | inl e ↦ e
        | inr some ↦ absurd (t (ap not (ne_eqb (v i) 0 some)))
      ]

  -- the first place is a true answer
  pub first_true : (r : Option ℕ) → first_place K S q ≡ r → TrueAnswer K S q r
  first_true None e = λ i h. zero i (first_from-none (λ i. not (v i == 0)) n 0 i e (omega arith) (omega arith))
  first_true (Some i) e = let f = first_from-some (λ i. not (v i == 0)) n 0 i e in (omega (arith, f.1), not_zero i f.0)

  -- and no answer is both
  pub true_not_false : (a : Option ℕ) → TrueAnswer K S q a → FalseAnswer K S q a → ⊥
  true_not_false None t f = f.2 (t f.0 f.1)
  true_not_false (Some i) t (inl past) = let h = t.0 in omega arith
  true_not_false (Some i) t (inr z) = t.1 z

  pub first_not_false : FalseAnswer K S q (first_place K S q) → ⊥
  first_not_false = true_not_false (first_place K S q) (first_true (first_place K S q) refl)

  -- each way in which an answer can come out
  verified_none : (a r : Option ℕ) → a ≡ None → first_place K S q ≡ r → Verifies K S q a (none_verified r)
  verified_none a None none e = rw (none) (refl, first_true None e)
  verified_none a (Some i) none e = let t = first_true (Some i) e in rw (none) ((i, t.0, t.1), (Missed i, (refl, e), refl))

  verified_value : (i : ℕ) → i < n → Verifies K S q (Some i) (cond (v i == 0) (Err (fault_case (Zero i))) (Ok (Some i)))
  verified_value i h =
      elim (cases_eq (v i) 0) [
        | inl z ↦ rw (eq-eqb (v i) 0 z) (inr z, (Zero i, (refl, h, z), refl))
        | inr some ↦ rw (ne_eqb (v i) 0 some) (refl, (h, some))
      ]

  verified_place : (i : ℕ) → Verifies K S q (Some i) (place_verified i (value_of K S q i))
  verified_place i =
      elim (cases_lt i n) [
        | inl h ↦ rw (lt-ltb i n h) (verified_value i h)
        | inr past ↦ rw (le-ltb i n past) (inl past, (NoPlace i, (refl, past), refl))
      ]

  -- every answer is verified
  pub verifies : (a : Option ℕ) → Verifies K S q a (verified K S q a)
  verifies None = verified_none None (first_place K S q) refl refl
  verifies (Some i) = verified_place i

  -- so is what equals an answer verified
  pub verifies_as : (a : Option ℕ) (r : Result (Option ℕ) Case) → r ≡ verified K S q a → Verifies K S q a r
  verifies_as a r is = subst (Verifies K S q a) (sym is) (verifies a)
