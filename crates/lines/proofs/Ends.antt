-- The end of a part. Assumes nothing.
use Rattle.std.proofs.Common.{◌≡◌, ℕ, ◌+◌, ◌-◌, ◌≤◌, List, length, drop, get_or, eqb, not, sym, ◌∙◌, ap, ⊎_elim, arith}
use Rattle.std.specs.Option.{unwrap_or}
use Rattle.std.specs.List.{position, position_or_len, slice_range}
use Rattle.std.proofs.lemmas.Bool.{eqb-true, eqb-false, cases_lt, lt-ltb, le-ltb}
use Rattle.std.proofs.lemmas.List.{length-drop, get_or-drop, take_all}
use Rattle.std.proofs.lemmas.List.Sums.{fails_before_first, passes_at_first, prefix_len-le-length}
use Rattle.lines.specs.Fields.{PartEnd}

first_or_length : (s : ℕ) (bs : List ℕ) → unwrap_or (position (λ b. eqb b s) bs) (length bs) ≡ position_or_len (λ b. eqb b s) bs
first_or_length s bs =
    ⊎_elim
    (λ h. rw (lt-ltb (position_or_len (λ b. eqb b s) bs) (length bs) h))
    (λ h. rw (le-ltb (position_or_len (λ b. eqb b s) bs) (length bs) h) (omega (arith, prefix_len-le-length (λ b. not (eqb b s)) bs)))
    (cases_lt (position_or_len (λ b. eqb b s) bs) (length bs))

-- `rest` is what stands from the part's first byte on
pub part_ends : (bytes rest : List ℕ) (from s : ℕ) → from ≤ length bytes → rest ≡ slice_range bytes from (length bytes) → PartEnd bytes from s (from + unwrap_or (position (λ b. eqb b s) rest) (length rest))
part_ends bytes rest from s begins cut =
    let n = position_or_len (λ b. eqb b s) rest in
    let is : rest ≡ drop from bytes = cut ∙ take_all (length bytes - from) (drop from bytes) (omega (arith, length-drop from bytes)) in
    let long = ap length is ∙ length-drop from bytes in
    let most : n ≤ length rest = prefix_len-le-length (λ b. not (eqb b s)) rest in
    let same : (k : ℕ) → get_or rest k 0 ≡ get_or bytes (from + k) 0 = λ k. ap (λ l. get_or l k 0) is ∙ get_or-drop from bytes k 0 in
    rw (first_or_length s rest) (record {
      after = omega arith;
      within = λ h. omega arith;
      beyond = λ h. absurd (omega arith);
      inside = λ k low high e.
          let back : from + (k - from) ≡ k = omega arith in
          eqb-false _ s (fails_before_first (λ b. eqb b s) rest (k - from) 0 (omega arith)) (same (k - from) ∙ ap (λ i. get_or bytes i 0) back ∙ e);
      stops = λ h. sym (same n) ∙ eqb-true _ s (passes_at_first (λ b. eqb b s) rest 0 (omega arith));
    })
