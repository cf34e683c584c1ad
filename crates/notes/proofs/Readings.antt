-- What is read of rows under notes. Assumes nothing.
use Rattle.std.proofs.Common.{◌≡◌, ℕ, Bool, Bor, List, length, Some, Option, ap, sym, ◌∙◌}
use Rattle.std.specs.Fn.{CalledAt}
use Rattle.std.specs.Iterator.{YieldsFirst}
use Rattle.std.specs.Iterator.Adapters.{filter_source, filter_callee, filter_steps}
use Rattle.std.specs.declared.iter.Filter.{Filter}
use Rattle.std.specs.List.{slice_get}
use Rattle.std.specs.Option.{option_map, option_and_then, is_none}
use Rattle.std.proofs.lemmas.Iterator.{YieldsList}
use Rattle.std.proofs.lemmas.Iterator.Consumers.{YieldsList-from_first, YieldsList-from_filter}
use denote.Param.Members.{Mut}
use Rattle.std.proofs.lemmas.Option.{slice_get-map, slice_get-get_or}
use Rattle.field.specs.Operations.{Operations}
use Rattle.frame.specs.declared.terms.Term.{Term}
use Rattle.rows.specs.declared.terms.RowTerms.{RowTerms}
use Rattle.rows.specs.RowTerms.{terms_left}
use Rattle.rows.specs.Systems.{Row, System, empty_row, row_at, term_count_of, term_of}
use Rattle.rows.proofs.RowValues.{found_terms}
use Rattle.notes.specs.Notes.{noted_code, open_terms, row_under, system_under}

-- a filter over terms hands out those at minutes that are not noted
pub open_yielded : {X F : Type 0} (system : X → System) (codes : List (Option ℕ)) (ts : List Term) {s : Filter (RowTerms X) F} {g : Mut F (Bor Term × Unit {0}) Bool} {f : F} → terms_left system (filter_source s) ≡ ts → filter_callee s ≡ f → ((t : Term) (b : Bool) (q : F) → CalledAt g f t b q → (q ≡ f) × (b ≡ is_none (noted_code codes t.minute))) → YieldsList (filter_steps (YieldsFirst (terms_left system)) g) (λ t. t) s (open_terms codes ts)
open_yielded system codes ts {g = g} source closure tells = YieldsList-from_filter g (λ t. is_none (noted_code codes t.minute)) (YieldsList-from_first (λ t. t) (terms_left system) ts source) closure tells

-- a row whose terms below are ts
module _ (K : Operations) (codes : List (Option ℕ)) (S : System) (i : ℕ) (ts : List Term) (found : Some ts ≡ option_map (λ r. r.terms) (slice_get S.rows i)) where
  row_there : slice_get (system_under K codes S).rows i ≡ Some (row_under K codes (row_at S i))
  row_there = slice_get-map (row_under K codes) S.rows i ∙ ap (option_map (row_under K codes)) (slice_get-get_or S.rows i empty_row (found_terms S.rows i ts found).0)

  pub open_count : Some (length (open_terms codes ts)) ≡ term_count_of (system_under K codes S) i
  open_count = ap (λ us. Some (length (open_terms codes us))) (found_terms S.rows i ts found).1 ∙ sym (ap (option_map (λ (r : Row). length r.terms)) row_there)

  pub open_term : (k : ℕ) → slice_get (open_terms codes ts) k ≡ term_of (system_under K codes S) i k
  open_term k = ap (λ us. slice_get (open_terms codes us) k) (found_terms S.rows i ts found).1 ∙ sym (ap (option_and_then (λ (r : Row). slice_get r.terms k)) row_there)
