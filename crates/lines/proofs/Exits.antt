-- The reader's exits: what each says of the fields behind the letter. Assumes nothing.
use Rattle.std.proofs.Common.{◌≡◌, ℕ, ◌%◌, ◌<◌, ◌≤◌, eqb, List, [], ◌∷◌, length, take, drop, Ok, Err, inl, inr, not-suc-le-zero, sym, refl, ap, ◌∙◌, arith}
use Rattle.std.proofs.lemmas.List.{take_all}
use Rattle.std.proofs.lemmas.Bool.{eq-eqb, cond-true}
use Rattle.frame.specs.declared.terms.Term.{Term}
use Rattle.frame.specs.Refusals.{RefusalCase, refused}
use Rattle.frame.specs.Frames.{check}
use Rattle.frame.proofs.Decides.{check_in_order}
use Rattle.lines.specs.Fields.{Field}
use Rattle.lines.specs.Frames.{flat}
use Rattle.lines.specs.Reading.{content, map_ok, and_then, numbers, first_number, pairs, checked, frame_of, read_fields}
use Rattle.lines.proofs.Turns.{numbers_more}

-- too many terms are refused before all else
refuses_many : (ts : List Term) → 16 < length ts → Err (refused 10 0) ≡ check ts
refuses_many ts many =
    sym (((check_in_order ts).refuses (refused 10 0)).1 (inl (refl, record { there = (refl, inr many); none_before = λ k h. absurd (not-suc-le-zero h) })))

pub pairs-flat : (ts : List Term) → pairs (flat ts) ≡ ts
pairs-flat [] = refl
pairs-flat (t ∷ ts) = ap (λ l. t ∷ l) (pairs-flat ts)

-- count is the number of the fields, and `ts` are the terms that they write behind the sum
module _ (fs : List Field) (count : ℕ) (all : count ≡ length fs) (odd : count % 2 ≡ 0 → ⊥) (s : ℕ) (sum : Ok s ≡ first_number fs) (rest : List Field) (behind : rest ≡ drop 1 fs) (ts : List Term) (read : numbers rest ≡ Ok (flat ts)) where
  all_read : checked s ts ≡ read_fields fs
  all_read =
      let one : length fs % 2 ≡ 1 = omega (arith, odd) in
      let numbered : numbers fs ≡ Ok (s ∷ flat ts) = numbers_more fs s (omega (arith, odd)) (sym sum) ∙ ap (λ l. map_ok (λ ns. s ∷ ns) (numbers l)) (sym behind) ∙ ap (map_ok (λ ns. s ∷ ns)) read in
      ap (checked s) (sym (pairs-flat ts)) ∙ ap (λ r. and_then r frame_of) (sym numbered) ∙ sym (cond-true (eqb (length fs % 2) 1) _ _ (eq-eqb (length fs % 2) 1 one))

  pub many_refused : 16 < length ts → Err (refused 10 0) ≡ read_fields fs
  many_refused many = ap (map_ok (λ _. content s ts)) (refuses_many ts many) ∙ all_read

  -- the first sixteen terms, as they are kept, are all
  module _ (kept : List Term) (is : kept ≡ take 16 ts) (few : length ts ≤ 16) where
    all_kept : kept ≡ ts
    all_kept = is ∙ take_all 16 ts few

    pub check_refused : (e : RefusalCase) → Err e ≡ check kept → Err e ≡ read_fields fs
    check_refused e not = ap (map_ok (λ _. content s ts)) (not ∙ ap check all_kept) ∙ all_read

    pub frame_read : Ok tt ≡ check kept → Ok (content s ts) ≡ read_fields fs
    frame_read ok = ap (map_ok (λ _. content s ts)) (ok ∙ ap check all_kept) ∙ all_read
