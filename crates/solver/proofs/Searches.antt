-- What a search finds. Assumes nothing.
use Rattle.std.proofs.Common.{◌≡◌, ◌≢◌, List, slice_index, ℕ, zero, suc, ◌+◌, ◌<◌, ◌≤◌, ◌==◌, not, Bool, true, false, Some, None, Option, sym, refl, ap, ◌∙◌, inl, inr, arith, eq-or-lt_of_le}
use Rattle.std.proofs.lemmas.Bool.{ne_eqb, eq-eqb}
use Rattle.std.specs.Option.{MatchOption}
use Rattle.field.specs.Operations.{first_from}
use Rattle.solver.specs.Slices.{IsVector}

pub first_from-of_none : (test : ℕ → Bool) (n a : ℕ) → ((k : ℕ) → a ≤ k → k < a + n → test k ≡ false) → first_from test n a ≡ None
unfolding first_from
first_from-of_none test zero a none = refl
first_from-of_none test (suc n) a none = rw (first_from, none a (omega arith) (omega arith)) (first_from-of_none test n (suc a) (λ k l h. none k (omega arith) (omega arith)))

pub first_from-of_first : (test : ℕ → Bool) (n a i : ℕ) → a ≤ i → i < a + n → test i ≡ true → ((k : ℕ) → a ≤ k → k < i → test k ≡ false) → first_from test n a ≡ Some i
unfolding first_from
first_from-of_first test zero a i l h passes none = absurd (omega arith)
first_from-of_first test (suc n) a i l h passes none =
    elim (eq-or-lt_of_le l) [
      | inl own ↦ rw (first_from, ap test own ∙ passes, own) refl
      | inr later ↦ rw (first_from, none a (omega arith) later) (first_from-of_first test n (suc a) i later (omega arith) passes (λ k l. none k (omega arith)))
    ]

-- a search over the numbers below n for a value that is not 0
module _ (f : ℕ → ℕ) (n : ℕ) where
  abbrev pub test : ℕ → Bool
  test k = not (f k == 0)

  pub first_nonzero : (r : Option ℕ) → MatchOption r ((k : ℕ) → k < n → f k ≡ 0) (λ i. (i < n) × (f i ≢ 0) × ((k : ℕ) → k < i → f k ≡ 0)) → r ≡ first_from test n 0
  first_nonzero None none = sym (first_from-of_none test n 0 (λ k l h. ap not (eq-eqb (f k) 0 (none k (omega arith)))))
  first_nonzero (Some i) found =
      sym (first_from-of_first test n 0 i (omega arith) (omega (arith, found.0)) (ap not (ne_eqb (f i) 0 found.1)) (λ k l h. ap not (eq-eqb (f k) 0 (found.2 k h))))

  -- where the values are read as g's
  module _ (g : ℕ → Option ℕ) (reads : (k : ℕ) → k < n → g k ≡ Some (f k)) where
    zero_read : (k : ℕ) → k < n → g k ≡ Some 0 → f k ≡ 0
    zero_read k h e = let same : Some (f k) ≡ Some 0 = sym (reads k h) ∙ e in cc

    pub first_nonzero_read : (r : Option ℕ) → MatchOption r ((k : ℕ) → 0 ≤ k → k < n → g k ≡ Some 0) (λ i. (0 ≤ i) × (i < n) × (g i ≢ Some 0) × ((k : ℕ) → 0 ≤ k → k < i → g k ≡ Some 0)) → r ≡ first_from test n 0
    first_nonzero_read None none = first_nonzero None (λ k h. zero_read k h (none k (omega arith) h))
    first_nonzero_read (Some i) found =
        let below = found.1 in
        first_nonzero (Some i) (below, λ e. found.2 (reads i below ∙ ap Some e), λ k h. zero_read k (omega arith) (found.3 k (omega arith) h))

  -- where they stand in a slice
  module _ (most : ℕ) (xs : List ℕ) (H : IsVector most f xs) (few : n ≤ most) where
    zero_held : (k : ℕ) → k < n → slice_index xs k ≡ 0 → f k ≡ 0
    zero_held k h e = sym (H.each k (omega arith)) ∙ e

    pub first_nonzero_held : (r : Option ℕ) → MatchOption r ((k : ℕ) → 0 ≤ k → k < n → slice_index xs k ≡ 0) (λ i. (0 ≤ i) × (i < n) × (slice_index xs i ≢ 0) × ((k : ℕ) → 0 ≤ k → k < i → slice_index xs k ≡ 0)) → r ≡ first_from test n 0
    first_nonzero_held None none = first_nonzero None (λ k h. zero_held k h (none k (omega arith) h))
    first_nonzero_held (Some i) found =
        let below = found.1 in
        first_nonzero (Some i) (below, λ e. found.2 (H.each i (omega arith) ∙ e), λ k h. zero_held k (omega arith) (found.3 k (omega arith) h))
