-- A slice filled place by place. Assumes nothing.
use Rattle.std.proofs.Common.{◌≡◌, ℕ, ◌+◌, ◌<◌, List, length, map, slice_set, refl, sym, ap, ◌∙◌, inl, inr, arith, length-set}
use Rattle.std.proofs.lemmas.Bool.{cases_eq}
use Rattle.std.proofs.lemmas.List.{ext_get_or, get_or-set_same, get_or-set_other}
use Rattle.std.specs.List.{range_with_len}
use Rattle.std.proofs.lemmas.List.FromFn.{length-map-range_with_len, get_or-map-range_with_len}
use Rattle.field.specs.Slices.{Filled}
use Rattle.solver.specs.Slices.{IsVector}

module _ (f : ℕ → ℕ) (before : List ℕ) where
  pub filled_none : Filled 0 f before before
  filled_none = record { long = refl; done = λ k h. absurd (omega arith); kept = λ k h. refl }

  pub filled_next : (k v : ℕ) (xs : List ℕ) → k < length before → Filled k f before xs → v ≡ f k → Filled (k + 1) f before (slice_set xs k v)
  filled_next k v xs here F e =
      record {
        long = length-set xs k v ∙ F.long;
        done = λ j h. elim (cases_eq j k) [
          | inl own ↦ rw (own) (get_or-set_same xs k v 0 (omega (arith, F.long)) ∙ e)
          | inr other ↦ get_or-set_other xs k j v 0 other ∙ F.done j (omega arith)
        ];
        kept = λ j h. get_or-set_other xs k j v 0 (λ e. omega arith) ∙ F.kept j (omega arith);
      }

-- the list of f's values
pub list_of_values : (n : ℕ) (f : ℕ → ℕ) (xs : List ℕ) → IsVector n f xs → xs ≡ map f (range_with_len 0 n)
list_of_values n f xs H =
    ext_get_or 0 xs (map f (range_with_len 0 n)) (H.long ∙ sym (length-map-range_with_len f 0 n))
    (λ i h. H.each i (omega (arith, H.long)) ∙ sym (get_or-map-range_with_len f 0 n i i 0 (omega (arith, H.long)) (omega arith)))

pub values_hold : (n : ℕ) (f : ℕ → ℕ) → IsVector n f (map f (range_with_len 0 n))
values_hold n f = record { long = length-map-range_with_len f 0 n; each = λ k h. get_or-map-range_with_len f 0 n k k 0 h (omega arith) }

pub values_same : (n m : ℕ) (f g : ℕ → ℕ) → n ≡ m → ((k : ℕ) → k < m → f k ≡ g k) → map f (range_with_len 0 n) ≡ map g (range_with_len 0 m)
values_same n m f g e same =
    ap (λ n. map f (range_with_len 0 n)) e
    ∙ list_of_values m g (map f (range_with_len 0 m)) (record { long = length-map-range_with_len f 0 m; each = λ k h. (values_hold m f).each k h ∙ same k h })
