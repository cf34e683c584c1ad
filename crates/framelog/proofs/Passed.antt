-- Bytes that are passed over. Assumes nothing.
use Rattle.std.proofs.Common.{◌≡◌, ℕ, ◌+◌, ◌-◌, ◌<◌, ◌≤◌, eqb, false, List, length, get_or, take, drop, inl, inr, ap, ◌∙◌, arith}
use Rattle.std.specs.List.{AllWithin}
use Rattle.std.proofs.lemmas.Bool.{eqb-false, cases_lt}
use Rattle.std.proofs.lemmas.List.{length-take-le, length-drop, get_or-take, get_or-drop}

-- where no separator stands below `from`, and none among the n bytes from there, none stands below their end
pub passed_over : (bytes : List ℕ) (s from n m : ℕ) → m ≡ n → from + n ≤ length bytes → ((k : ℕ) → k < from → get_or bytes k 0 ≡ s → ⊥) → AllWithin (λ b. eqb b s ≡ false) (take m (drop from bytes)) 0 (length (take m (drop from bytes))) → (k : ℕ) → k < from + n → get_or bytes k 0 ≡ s → ⊥
passed_over bytes s from n m same fits before none k h =
    elim (cases_lt k from) [
      | inl below ↦ before k below
      | inr from_on ↦
          let j : k - from < m = omega arith in
          let long = length-take-le m (drop from bytes) (omega (arith, length-drop from bytes)) in
          let back : from + (k - from) ≡ k = omega arith in
          let there : get_or (take m (drop from bytes)) (k - from) 0 ≡ get_or bytes k 0 = get_or-take m (drop from bytes) (k - from) 0 j ∙ get_or-drop from bytes (k - from) 0 ∙ ap (λ i. get_or bytes i 0) back in
          λ e. eqb-false _ s (none (k - from) 0 (omega arith) (omega (arith, long))) (there ∙ e)
    ]
