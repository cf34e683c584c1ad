-- Values at places in a slice. Assumes nothing.
use Rattle.std.proofs.Common.{◌≡◌, ℕ, ◌+◌, ◌%◌, ◌<◌, ◌≤◌, List, length, take, slice_index, slice_set, sym, ap, ◌∙◌, inl, inr, arith}
use Rattle.std.proofs.lemmas.Bool.{cases_eq, cases_lt}
use Rattle.std.proofs.lemmas.List.{get_or_past, get_or-set_same, get_or-set_other, get_or-take, length-take-le}
use Rattle.field.specs.Laws.{Lawful}
use Rattle.algebra.specs.Places.{Distinct, Outside}
use Rattle.algebra.specs.Vectors.{place, unit_minus}
use Rattle.algebra.proofs.Sums.{place-at, place-elsewhere, unit_minus-own, unit_minus-at, unit_minus-elsewhere}
use Rattle.algebra.proofs.Counting.{Among-or_Outside}
use Rattle.solver.specs.Slices.{IsVector}
use Rattle.solver.specs.Steps.Vectors.{Placed}

module _ (Q y : ℕ → ℕ) where
  pub placed_none : (xs : List ℕ) (n : ℕ) → IsVector n (λ _. 0) xs → Placed 0 Q y xs
  placed_none xs n H =
      record {
        at = λ distinct k h. absurd (omega arith);
        elsewhere = λ j out. elim (cases_lt j n) [
          | inl h ↦ H.each j h
          | inr past ↦ get_or_past xs j 0 (omega (arith, H.long))
        ];
      }

  -- one value more
  pub placed_next : (k : ℕ) (xs : List ℕ) → Q k < length xs → Placed k Q y xs → Placed (k + 1) Q y (slice_set xs (Q k) (y k))
  placed_next k xs there P =
      record {
        at = λ distinct j h. elim (cases_eq j k) [
          | inl own ↦ rw (own) (get_or-set_same xs (Q k) (y k) 0 there)
          | inr other ↦
              get_or-set_other xs (Q k) (Q j) (y k) 0 (λ e. other (distinct j k h (omega arith) e))
              ∙ P.at (λ i l hi hl. distinct i l (omega arith) (omega arith)) j (omega arith)
        ];
        elsewhere = λ j out.
            get_or-set_other xs (Q k) j (y k) 0 (λ e. out k (omega arith) (sym e)) ∙ P.elsewhere j (λ i h. out i (omega arith));
      }

-- the first s places of a list
pub placed_taken : (s : ℕ) (places : List ℕ) (y : ℕ → ℕ) (xs : List ℕ) → s ≤ length places → Placed (length (take s places)) (slice_index (take s places)) y xs → Placed s (slice_index places) y xs
placed_taken s places y xs fits P =
    let long = length-take-le s places fits in
    let same : (k : ℕ) → k < s → slice_index (take s places) k ≡ slice_index places k = λ k h. get_or-take s places k 0 h in
    record {
      at = λ distinct k h.
          ap (slice_index xs) (sym (same k h))
          ∙ P.at (λ i l hi hl e. distinct i l (omega arith) (omega arith) (sym (same i (omega arith)) ∙ e ∙ same l (omega arith))) k (omega arith);
      elsewhere = λ j out. P.elsewhere j (λ k h e. out k (omega arith) (sym (same k (omega arith)) ∙ e));
    }

module _ (F : Lawful) (s : ℕ) (Q y : ℕ → ℕ) (xs : List ℕ) (distinct : Distinct s Q) where
  -- codes at their places
  pub placed_place : (v : ℕ → ℕ) → Placed s Q y xs → ((k : ℕ) → k < s → y k ≡ v k % F.ops.q) → (j : ℕ) → slice_index xs j ≡ place F.ops s Q v j
  placed_place v P same j =
      elim (Among-or_Outside s Q j) [
        | inl found ↦
            ap (slice_index xs) (sym found.2)
            ∙ P.at distinct found.0 found.1
            ∙ same found.0 found.1
            ∙ sym (place-at F s Q v distinct found.0 found.1)
            ∙ ap (place F.ops s Q v) found.2
        | inr none ↦ P.elsewhere j none ∙ sym (place-elsewhere F s Q v j none)
      ]

  -- the negatives of values at their places, and then 1 at another
  pub placed_unit_minus : (v : ℕ → ℕ) (i : ℕ) → i < length xs → Placed s Q y xs → Outside s Q i → ((k : ℕ) → k < s → y k ≡ F.ops.negative (v k)) → (j : ℕ) → slice_index (slice_set xs i 1) j ≡ unit_minus F.ops i s Q v j
  placed_unit_minus v i there P out same j =
      elim (cases_eq j i) [
        | inl own ↦ rw (own) (get_or-set_same xs i 1 0 there ∙ sym (unit_minus-own F i s Q v out))
        | inr other ↦
            get_or-set_other xs i j 1 0 other
            ∙ elim (Among-or_Outside s Q j) [
              | inl found ↦
                  ap (slice_index xs) (sym found.2)
                  ∙ P.at distinct found.0 found.1
                  ∙ same found.0 found.1
                  ∙ sym (unit_minus-at F i s Q v distinct out found.0 found.1)
                  ∙ ap (unit_minus F.ops i s Q v) found.2
              | inr none ↦ P.elsewhere j none ∙ sym (unit_minus-elsewhere F i s Q v j (λ e. other (sym e)) none)
            ]
      ]
