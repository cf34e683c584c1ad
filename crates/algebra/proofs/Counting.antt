-- Searches below a bound, and numbers that differ. Assumes nothing.
use Rattle.std.proofs.Common.{◌≡◌, ℕ, zero, suc, ◌<◌, ◌≤◌, ◌≢◌, ◌⊎◌, true, eqb, length, get_or, map, sym, refl, ap, ◌∙◌, inl, inr, arith}
use Rattle.std.specs.List.{IsDistinct, list_any, range_with_len}
use Rattle.std.proofs.lemmas.Bool.{cases_eq, eqb-true, ne_eqb}
use Rattle.std.proofs.lemmas.List.FromFn.{length-map-range_with_len, get_or-map-range_with_len}
use Rattle.std.proofs.lemmas.Map.Keys.{IsDistinct-from_apart}
use Rattle.std.proofs.lemmas.Map.Steps.{length-le_from_distinct_below}
use Rattle.std.proofs.lemmas.Map.Views.{Contains-from_any}
use Rattle.algebra.specs.Places.{Below, Distinct, Among, Outside}
use Rattle.algebra.specs.Vectors.{extend}
use Rattle.algebra.proofs.Deltas.{extend-last, extend-below, below-suc}

-- f takes the value j below s, or does not
pub Among-or_Outside : (s : ℕ) (f : ℕ → ℕ) (j : ℕ) → Among s f j ⊎ Outside s f j
Among-or_Outside zero f j = inr (λ k h e. omega arith)
Among-or_Outside (suc s) f j =
    elim (cases_eq (f s) j) [
      | inl e ↦ inl (s, omega arith, e)
      | inr n ↦
          elim (Among-or_Outside s f j) [
            | inl found ↦ inl (found.0, omega (arith, found.1), found.2)
            | inr none ↦ inr (below-suc (λ k. f k ≢ j) s none n)
          ]
    ]

-- f 0, .. f (s − 1) as a list
pub get_or-values : (s : ℕ) (f : ℕ → ℕ) (k d : ℕ) → k < s → get_or (map f (range_with_len 0 s)) k d ≡ f k
get_or-values s f k d h = get_or-map-range_with_len f 0 s k k d h (omega arith)

-- different numbers below r are at most r
pub le-of_Distinct : (r s : ℕ) (f : ℕ → ℕ) → Below s f r → Distinct s f → s ≤ r
le-of_Distinct r s f below differ =
    let xs = map f (range_with_len 0 s) in
    let long : length xs ≡ s = length-map-range_with_len f 0 s in
    let distinct : IsDistinct eqb xs =
    IsDistinct-from_apart eqb xs
    (λ i j d less h.
    let apart : f i ≢ f j = λ e. let same = differ i j (omega arith) (omega arith) e in omega arith in
    ap (λ x. eqb x (get_or xs j d)) (get_or-values s f i d (omega arith)) ∙ ap (eqb (f i)) (get_or-values s f j d (omega arith)) ∙ ne_eqb (f i) (f j) apart) in
    let within : (q : ℕ) → list_any (eqb q) xs ≡ true → q < r =
    λ q e.
    let there = Contains-from_any eqb-true q xs e in
    let k = there.0 in
    let h : k < length xs = there.1 in
    let at : f k ≡ q = sym (get_or-values s f k q (omega arith)) ∙ there.2 in
    let b = below k (omega arith) in
    omega arith in
    let most = length-le_from_distinct_below xs r distinct within in
    omega arith

-- one more number
pub Below-extend : (s n : ℕ) (f : ℕ → ℕ) (j : ℕ) → Below s f n → j < n → Below (suc s) (extend s f j) n
Below-extend s n f j below h =
    below-suc (λ k. extend s f j k < n) s
    (λ k hk. let b = below k hk in let e = extend-below s f j k hk in omega arith)
    (let e = extend-last s f j in omega arith)

pub Distinct-extend : (r : ℕ) (f : ℕ → ℕ) (j : ℕ) → Distinct r f → Outside r f j → Distinct (suc r) (extend r f j)
Distinct-extend r f j differ none k l hk hl e =
    let g = extend r f j in
    let at = extend-below r f j in
    let last = extend-last r f j in
    below-suc (λ k. (l : ℕ) → l < suc r → g k ≡ g l → k ≡ l) r
    (λ k hk. below-suc (λ l. g k ≡ g l → k ≡ l) r (λ l hl e. differ k l hk hl (sym (at k hk) ∙ e ∙ at l hl)) (λ e. absurd (none k hk (sym (at k hk) ∙ e ∙ last))))
    (below-suc (λ l. g r ≡ g l → r ≡ l) r (λ l hl e. absurd (none l hl (sym (at l hl) ∙ sym e ∙ last))) (λ e. refl))
    k hk l hl e

-- r different numbers below r are all of them
pub Among-of_Distinct : (r : ℕ) (f : ℕ → ℕ) → Below r f r → Distinct r f → (j : ℕ) → j < r → Among r f j
Among-of_Distinct r f below differ j h =
    elim (Among-or_Outside r f j) [
      | inl found ↦ found
      | inr none ↦
          let more : suc r ≤ r = le-of_Distinct r (suc r) (extend r f j) (Below-extend r r f j below h) (Distinct-extend r f j differ none) in
          absurd (omega arith)
    ]
