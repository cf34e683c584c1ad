-- A choice of minutes satisfies the rows under notes just where, with the noted codes put in, it satisfies the rows. Assumes nothing.
use Rattle.std.proofs.Common.{◌≡◌, ℕ, ◌%◌, ◌<◌, ◌≤◌, List, inl, inr, [], ◌∷◌, length, Some, None, Option, cond, sym, refl, ap, subst, ◌∙◌, arith, mod-eq_of_lt}
use Rattle.std.specs.Option.{unwrap_or, is_none}
use Rattle.std.proofs.Math.Path.{fun_ext}
use Rattle.std.proofs.lemmas.List.{length-map}
use Rattle.std.proofs.lemmas.Bool.{cases_lt}
use Rattle.field.specs.Operations.{Operations}
use Rattle.field.specs.Laws.{Lawful}
use Rattle.field.specs.Slices.{Filled}
use Rattle.field.proofs.FieldLemmas as field
use Rattle.field.proofs.FieldLemmas.{ring}
use Rattle.frame.specs.declared.terms.Term.{Term}
use Rattle.rows.specs.Systems.{Row, System, row_at}
use Rattle.rows.specs.Values.{choice, weighted, Satisfies}
use Rattle.rows.proofs.RowValues.{weighted_code}
use Rattle.notes.specs.Notes.{noted_code, put_in, noted_alone, open_terms, row_under, NotesFit, SatisfiedUnder}
use Rattle.notes.specs.Lemmas.Under.{row_under_at}

module _ (F : Lawful) (codes : List (Option ℕ)) (x : ℕ → ℕ) where
  -- one term more, with its code if it is noted
  parted_more : (code : Option ℕ) (t : Term) (us : List Term) (noted all : ℕ) → F.ops.plus (weighted F.ops us x) noted ≡ all → F.ops.plus (weighted F.ops (cond (is_none code) (t ∷ us) us) x) (F.ops.plus (F.ops.times t.weight (unwrap_or code 0)) noted) ≡ F.ops.plus (F.ops.times t.weight (unwrap_or code (x t.minute))) all
  unfolding weighted
  parted_more (Some k) t us noted all e = field.plus_left_comm F (weighted F.ops us x) (F.ops.times t.weight k) noted ∙ ap (F.ops.plus (F.ops.times t.weight k)) e
  parted_more None t us noted all e =
      let product = F.ops.times t.weight (x t.minute) in
      ap (F.ops.plus (F.ops.plus product (weighted F.ops us x))) (ap (λ z. F.ops.plus z noted) (field.times-zero F t.weight) ∙ field.zero-plus F noted)
      ∙ field.plus_right F (F.ops.plus product (weighted F.ops us x)) noted
      ∙ F.plus_assoc product (weighted F.ops us x) noted
      ∙ ap (F.ops.plus product) e

  parted : (ts : List Term) → F.ops.plus (weighted F.ops (open_terms codes ts) x) (weighted F.ops ts (noted_alone codes)) ≡ weighted F.ops ts (put_in codes x)
  unfolding weighted
  parted [] = F.plus-zero 0 ∙ field.zero-mod-q F
  parted (t ∷ ts) = parted_more (noted_code codes t.minute) t (open_terms codes ts) (weighted F.ops ts (noted_alone codes)) (weighted F.ops ts (put_in codes x)) (parted ts)

  -- what is taken from a sum and added again, and the other way round
  add_back : (b w : ℕ) → F.ops.plus (F.ops.plus b (F.ops.negative w) % F.ops.q) w ≡ b % F.ops.q
  add_back b w = simp ring

  take_back : (a w : ℕ) → a < F.ops.q → a ≡ F.ops.plus (F.ops.plus a w) (F.ops.negative w)
  take_back a w h = sym (mod-eq_of_lt h) ∙ sym (simp ring)

  satisfied_below : (r : Row) → Satisfies F.ops (row_under F.ops codes r) x → Satisfies F.ops r (put_in codes x)
  satisfied_below r e =
      let noted = weighted F.ops r.terms (noted_alone codes) in
      sym (parted r.terms) ∙ ap (λ a. F.ops.plus a noted) e ∙ add_back r.sum noted

  satisfied_under : (r : Row) → Satisfies F.ops r (put_in codes x) → Satisfies F.ops (row_under F.ops codes r) x
  satisfied_under r e =
      let left = weighted F.ops (open_terms codes r.terms) x in
      let noted = weighted F.ops r.terms (noted_alone codes) in
      take_back left noted (weighted_code F x (open_terms codes r.terms))
      ∙ ap (λ a. F.ops.plus a (F.ops.negative noted)) (parted r.terms ∙ e)
      ∙ field.plus_left F r.sum (F.ops.negative noted)
      ∙ sym (field.plus-mod F r.sum (F.ops.negative noted))

  pub all_satisfied : (S : System) → SatisfiedUnder F.ops codes S x
  all_satisfied S =
      let long = length-map S.rows (row_under F.ops codes) in (
        λ fit i h. satisfied_below (row_at S i) (subst (λ r. Satisfies F.ops r x) (row_under_at F.ops codes S i h) (fit i (omega arith))),
        λ fit i h.
            let there : i < length S.rows = omega arith in
            subst (λ r. Satisfies F.ops r x) (sym (row_under_at F.ops codes S i there)) (satisfied_under (row_at S i) (fit i there)),
      )

-- codes put into the first n places of a slice, with all minutes among them, are all put in
module _ (K : Operations) (m : ℕ) (codes : List (Option ℕ)) (fit : NotesFit K m codes) (xs ys : List ℕ) (n : ℕ) (whole : m ≤ n) (filled : Filled n (put_in codes (choice xs)) xs ys) where
  put_beyond : (c : ℕ) (code : Option ℕ) → noted_code codes c ≡ code → n ≤ c → unwrap_or code (choice xs c) ≡ choice ys c
  put_beyond c (Some k) e h = absurd (let l = fit.minute c k e in omega arith)
  put_beyond c None e h = sym (filled.kept c h)

  put_at : (c : ℕ) → put_in codes (choice xs) c ≡ choice ys c
  put_at c =
      elim (cases_lt c n) [
        | inl h ↦ sym (filled.done c h)
        | inr h ↦ put_beyond c (noted_code codes c) refl h
      ]

  pub put_everywhere : put_in codes (choice xs) ≡ choice ys
  put_everywhere = fun_ext put_at
