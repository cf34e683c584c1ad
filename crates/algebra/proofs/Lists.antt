-- Lists of numbers: which of two is the lexicographically lesser, and when rising lists are equal. Assumes nothing.
use Rattle.std.proofs.Common.{◌≡◌, ◌≢◌, ℕ, zero, suc, ◌<◌, ◌≤◌, List, [], ◌∷◌, length, slice_index, Less, Equal, Greater, sym, refl, ap, ◌∙◌, inl, inr, arith}
use Rattle.std.specs.List.{Contains}
use Rattle.std.specs.List.Sorted.{IsStrictlyIncreasing}
use Rattle.std.specs.Ordering.{nat_cmp, ordering_then, ordering_reverse, is_eq}
use Rattle.std.specs.Cmp.{nat_cmp_is}
use Rattle.std.specs.Cmp.Lexicographic.{slice_cmp}
use Rattle.std.proofs.lemmas.Cmp.{nat_list_cmp_total}
use Rattle.std.proofs.lemmas.Map.Text.{is_eq-slice_cmp}
use Rattle.std.proofs.lemmas.Slice.Eq.{bytes_eq-Decides}
use Rattle.std.proofs.lemmas.Bool.{cases_eq, cases_lt}
use Rattle.std.proofs.lemmas.List.{get_or_default}
use Rattle.std.proofs.lemmas.Map.Keys.{sorted_from_strictly_increasing, below_from_sorted}
use Rattle.std.proofs.lemmas.Grind.{same_number_lists}

-- a list that is never above at the first difference is not greater
pub not_Greater : (xs ys : List ℕ) → length ys ≡ length xs → ((k : ℕ) → k < length xs → ((j : ℕ) → j < k → slice_index xs j ≡ slice_index ys j) → slice_index xs k ≤ slice_index ys k) → slice_cmp nat_cmp xs ys ≢ Greater
not_Greater [] [] e least g = absurd cc
not_Greater [] (y ∷ ys) e least g = absurd (omega arith)
not_Greater (x ∷ xs) [] e least g = absurd (omega arith)
not_Greater (x ∷ xs) (y ∷ ys) e least g =
    let first : x ≤ y = least 0 (omega arith) (λ j h. absurd (omega arith)) in
    elim (cases_eq x y) [
      | inl same ↦
          not_Greater xs ys (omega arith)
          (λ k h agree. least (suc k) (omega arith) (λ j below. (elim j as (λ j. j < suc k → slice_index (x ∷ xs) j ≡ slice_index (y ∷ ys) j) [ zero ↦ λ _. same | suc j ↦ λ b. agree j (omega arith) ]) below))
          (ap (λ o. ordering_then o (slice_cmp nat_cmp xs ys)) (nat_cmp_is x y Equal same) ∙ g)
      | inr n ↦ let less = ap (λ o. ordering_then o (slice_cmp nat_cmp xs ys)) (nat_cmp_is x y Less (omega arith)) ∙ g in absurd cc
    ]

-- lists that are each not greater than the other are equal
pub same-of_not_Greater : (xs ys : List ℕ) → slice_cmp nat_cmp xs ys ≢ Greater → slice_cmp nat_cmp ys xs ≢ Greater → xs ≡ ys
same-of_not_Greater xs ys f g =
    (elim (slice_cmp nat_cmp xs ys) as (λ o. slice_cmp nat_cmp xs ys ≡ o → xs ≡ ys) [
      | Less ↦ λ e. absurd (g (nat_list_cmp_total.antisymm ys xs ∙ ap ordering_reverse e))
      | Equal ↦ λ e. (bytes_eq-Decides xs ys).0 (sym (is_eq-slice_cmp xs ys) ∙ ap is_eq e)
      | Greater ↦ λ e. absurd (f e)
    ])
    refl

-- a rising list whose elements are all in another: where they agree below k, the other goes on and is no greater at k
no_later : (xs ys : List ℕ) → IsStrictlyIncreasing xs → IsStrictlyIncreasing ys → ((i : ℕ) → Contains xs i → Contains ys i) → (k : ℕ) → k < length xs → ((j : ℕ) → j < k → slice_index xs j ≡ slice_index ys j) → (k < length ys) × (slice_index ys k ≤ slice_index xs k)
no_later xs ys xs-rises ys-rises within k h agree =
    let there = within (slice_index xs k) (k, h, get_or_default xs k (slice_index xs k) 0 h) in
    let at = there.0 in
    let short : at < length ys = there.1 in
    let value : slice_index ys at ≡ slice_index xs k = get_or_default ys at 0 (slice_index xs k) short ∙ there.2 in
    let late : k ≤ at =
    elim (cases_lt at k) [
      | inr more ↦ more
      | inl less ↦ let rise = below_from_sorted xs at k 0 (sorted_from_strictly_increasing xs xs-rises) less h in let same = agree at less in absurd (omega arith)
    ] in (
      omega arith,
      elim (cases_eq k at) [
        | inl e ↦ let same = ap (slice_index ys) e in omega arith
        | inr n ↦ let rise = below_from_sorted ys k at 0 (sorted_from_strictly_increasing ys ys-rises) (omega arith) short in omega arith
      ],
    )

-- rising lists with the same elements are equal
pub same-of_rising : (xs ys : List ℕ) → IsStrictlyIncreasing xs → IsStrictlyIncreasing ys → ((i : ℕ) → Contains xs i → Contains ys i) → ((i : ℕ) → Contains ys i → Contains xs i) → xs ≡ ys
same-of_rising xs ys xs-rises ys-rises into back = same_number_lists xs ys long (λ k h. agree (suc k) k (omega arith) h)
  where
    agree : (u k : ℕ) → k < u → k < length xs → slice_index xs k ≡ slice_index ys k
    agree zero k less h = absurd (omega arith)
    agree (suc u) k less h =
        let before = λ (j : ℕ) (below : j < k). agree u j (omega arith) (omega arith) in
        let one = no_later xs ys xs-rises ys-rises into k h before in
        let two = no_later ys xs ys-rises xs-rises back k one.0 (λ j below. sym (before j below)) in
        omega (arith, one.1, two.1)

    long : length xs ≡ length ys
    long =
        elim (cases_lt (length xs) (length ys)) [
          | inl less ↦ let more = no_later ys xs ys-rises xs-rises back (length xs) less (λ j below. sym (agree (suc j) j (omega arith) below)) in absurd (omega (arith, more.0))
          | inr most ↦
              elim (cases_lt (length ys) (length xs)) [
                | inl less ↦ let more = no_later xs ys xs-rises ys-rises into (length ys) less (λ j below. agree (suc j) j (omega arith) (omega arith)) in absurd (omega (arith, more.0))
                | inr least ↦ omega arith
              ]
        ]
