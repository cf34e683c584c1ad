-- Where nothing is noted. Assumes nothing.
use Rattle.std.proofs.Common.{◌≡◌, ℕ, zero, suc, List, Some, None, Option, replicate, slice_index_or, sym, refl, subst, ◌∙◌}
use Rattle.std.proofs.lemmas.List.{length-replicate}
use Rattle.std.proofs.lemmas.Option.{none-some}
use Rattle.field.specs.Operations.{Operations}
use Rattle.notes.specs.Notes.{noted_code, no_codes, NotesFit}

-- no minute has a code
none_of : (n c : ℕ) → slice_index_or {A = Option ℕ} (replicate n None) c None ≡ None
none_of zero c = refl
none_of (suc n) zero = refl
none_of (suc n) (suc c) = none_of n c

pub no_codes_fit : (K : Operations) (m : ℕ) (codes : List (Option ℕ)) → codes ≡ no_codes → NotesFit K m codes
no_codes_fit K m codes e = subst (NotesFit K m) (sym e) none_fit
  where
    none : (c code : ℕ) → noted_code no_codes c ≡ Some code → ⊥
    none c code f = none-some code (sym (none_of 64 c) ∙ f)

    none_fit : NotesFit K m no_codes
    none_fit = record { long = length-replicate {A = Option ℕ} 64 None; minute = λ c code f. absurd (none c code f); code = λ c code f. absurd (none c code f) }
