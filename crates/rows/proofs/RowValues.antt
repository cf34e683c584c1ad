-- The entry of the matrix and the value of a row, from the terms handed out. Assumes nothing.
use Rattle.std.proofs.Common.{eqb, ◌≡◌, ℕ, zero, suc, ◌%◌, ◌<◌, List, [], ◌∷◌, length, get_or, Some, sym, refl, ap, ◌∙◌, arith, mod-eq_of_lt, eq-eqb}
use Rattle.std.proofs.lemmas.Bool.{lt-ltb, ne_eqb, cond-true, cond-false}
use Rattle.std.specs.List.{slice_get, fold}
use Rattle.std.specs.Option.{option_map}
use Rattle.field.specs.Operations.{Operations}
use Rattle.field.specs.Laws.{Lawful}
use Rattle.field.proofs.FieldLemmas as field
use Rattle.frame.specs.declared.terms.Term.{Term}
use Rattle.std.proofs.lemmas.Option.{none-some}
use Rattle.rows.specs.Systems.{Row, System, empty_row, row_at, sum_of_row}
use Rattle.rows.specs.Values.{weight_for, entry_of, weighted, row_value_of, ValueTells}

-- a row whose terms are handed out, or whose sum was read, is there
pub found_terms : (rs : List Row) (i : ℕ) (ts : List Term) → Some ts ≡ option_map (λ r. r.terms) (slice_get rs i) → (i < length rs) × (ts ≡ (get_or rs i empty_row).terms)
found_terms [] i ts e = absurd (none-some ts (sym e))
found_terms (r ∷ rs) zero ts e = (omega arith, cc)
found_terms (r ∷ rs) (suc i) ts e = let p = found_terms rs i ts e in (omega arith, p.1)

found_sum : (rs : List Row) (i sum : ℕ) → Some sum ≡ option_map (λ r. r.sum) (slice_get rs i) → (slice_get rs i ≡ Some (get_or rs i empty_row)) × (sum ≡ (get_or rs i empty_row).sum)
found_sum [] i sum e = absurd (none-some sum (sym e))
found_sum (r ∷ rs) zero sum e = (refl, cc)
found_sum (r ∷ rs) (suc i) sum e = found_sum rs i sum e

-- the weight at a minute, one term after the other
pub weight_here : (c : ℕ) (t : Term) (ts all : List Term) → all ≡ t ∷ ts → t.minute ≡ c → weight_for all c ≡ t.weight
weight_here c t ts all e same = ap (λ l. weight_for l c) e ∙ cond-true (eqb t.minute c) _ _ (eq-eqb t.minute c same)

pub weight_behind : (c : ℕ) (t : Term) (ts all : List Term) → all ≡ t ∷ ts → (t.minute ≡ c → ⊥) → weight_for all c ≡ weight_for ts c
weight_behind c t ts all e other = ap (λ l. weight_for l c) e ∙ cond-false (eqb t.minute c) _ _ (ne_eqb t.minute c other)

pub entry_there : (K : Operations) (S : System) (i c : ℕ) → i < length S.rows → c < S.width → entry_of K S i c ≡ Some (weight_for (row_at S i).terms c % K.q)
entry_there K S i c there inside = rw (lt-ltb i (length S.rows) there, lt-ltb c S.width inside)

-- weighted sums in a field
module _ (F : Lawful) (x : ℕ → ℕ) where
  pub weighted_code : (ts : List Term) → weighted F.ops ts x < F.ops.q
  unfolding weighted
  weighted_code [] = let two = F.two_codes in omega arith
  weighted_code (t ∷ ts) = F.plus_code (F.ops.times t.weight (x t.minute)) (weighted F.ops ts x)

  none_weighted : (ts : List Term) → F.ops.plus 0 (weighted F.ops ts x) ≡ weighted F.ops ts x
  none_weighted ts = field.zero-plus F (weighted F.ops ts x) ∙ mod-eq_of_lt (weighted_code ts)

  -- one term more in the total, one less to come
  term_weighted : (total : ℕ) (t : Term) (ts : List Term) → F.ops.plus (F.ops.plus total (F.ops.times t.weight (x t.minute))) (weighted F.ops ts x) ≡ F.ops.plus total (weighted F.ops (t ∷ ts) x)
  unfolding weighted
  term_weighted total t ts = F.plus_assoc total (F.ops.times t.weight (x t.minute)) (weighted F.ops ts x)

  all_weighted : (total : ℕ) → total < F.ops.q → F.ops.plus total (weighted F.ops [] x) ≡ total
  unfolding weighted
  all_weighted total h = F.plus-zero total ∙ mod-eq_of_lt h

  -- the terms added up in order
  added_weighted : (total : ℕ) (ts : List Term) → total < F.ops.q → fold (λ a t. F.ops.plus a (F.ops.times t.weight (x t.minute))) total ts ≡ F.ops.plus total (weighted F.ops ts x)
  added_weighted total [] h = sym (all_weighted total h)
  added_weighted total (t ∷ ts) h =
      let product = F.ops.times t.weight (x t.minute) in
      added_weighted (F.ops.plus total product) ts (F.plus_code total product) ∙ term_weighted total t ts

  pub all_added : (ts : List Term) → fold (λ a t. F.ops.plus a (F.ops.times t.weight (x t.minute))) 0 ts ≡ weighted F.ops ts x
  all_added ts = let two = F.two_codes in added_weighted 0 ts (omega arith) ∙ none_weighted ts

  -- the value of a row tells whether the row is satisfied
  pub value_tells : (r : Row) → ValueTells F.ops r x
  value_tells r =
      let w = weighted F.ops r.terms x in
      let own : w % F.ops.q ≡ w = mod-eq_of_lt (weighted_code r.terms) in
      record {
        code = F.plus_code r.sum (F.ops.negative w);
        zero_satisfies = λ e. sym (field.difference_zero F r.sum w e ∙ own);
        satisfied_zero = λ e. sym (field.plus_left F r.sum (F.ops.negative w)) ∙ ap (λ s. F.ops.plus s (F.ops.negative w)) (sym e) ∙ F.plus-negative w;
      }

  -- what the loop ends with
  pub row_valued : (S : System) (i sum total : ℕ) → Some sum ≡ sum_of_row S i → total ≡ weighted F.ops (row_at S i).terms x → Some (F.ops.plus sum (F.ops.negative total)) ≡ row_value_of F.ops S i x
  row_valued S i sum total read whole =
      let there = found_sum S.rows i sum read in
      rw (there.0, there.1, whole)
