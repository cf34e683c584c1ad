-- A row added to values, term by term. Assumes nothing.
use Rattle.std.proofs.Common.{◌≡◌, ◌≢◌, ℕ, zero, suc, ◌+◌, None, slice_index_or, ◌<◌, ◌≤◌, ◌==◌, cond, List, [], ◌∷◌, ◌++◌, length, slice_index, slice_set, sym, refl, ap, ◌∙◌, inl, inr, arith, mod-eq_of_lt, length-set, length-append}
use Rattle.std.specs.List.{slice_get}
use Rattle.std.specs.Option.{option_map}
use Rattle.std.proofs.lemmas.Option.{none-some}
use Rattle.std.proofs.lemmas.Bool.{cases_eq, ne_eqb, eq-eqb}
use Rattle.std.proofs.lemmas.List.{append-nil, append_assoc, get_or_past, get_or_append_left, get_or-set_same, get_or-set_other}
use Rattle.std.proofs.Math.Seq.{get_or-append_seam}
use Rattle.field.specs.Operations.{Operations}
use Rattle.field.specs.Slices.{Filled}
use Rattle.field.specs.Sums.{Σ}
use Rattle.field.specs.Laws.{Lawful}
use Rattle.field.proofs.FieldLemmas.{ring, times_right}
use Rattle.frame.specs.declared.terms.Term.{Term}
use Rattle.frame.specs.Frames.{no_term, minute_at}
use Rattle.rows.specs.Systems.{Row, System, empty_row, row_at, WellFormedRow}
use Rattle.rows.specs.Values.{weight_for, entry, column_value}
use Rattle.algebra.proofs.Sums.{Σ-zero, Σ-suc, Σ-code}
use Rattle.solver.specs.Slices.{Codes, IsVector}

-- no term has this minute
abbrev pub Without : List Term → ℕ → Type 0
Without ts c = (k : ℕ) → k < length ts → minute_at ts k ≢ c

pub weight_without : (ts : List Term) (c : ℕ) → Without ts c → weight_for ts c ≡ 0
weight_without [] c none = refl
weight_without (t ∷ ts) c none = rw (ne_eqb t.minute c (none 0 (omega arith))) (weight_without ts c (λ k h. none (suc k) (omega arith)))

weight_last : (ts : List Term) (t : Term) → Without ts t.minute → weight_for (ts ++ t ∷ []) t.minute ≡ t.weight
weight_last [] t none = rw (eq-eqb t.minute t.minute refl) refl
weight_last (d ∷ ds) t none = rw (ne_eqb d.minute t.minute (none 0 (omega arith))) (weight_last ds t (λ k h. none (suc k) (omega arith)))

weight_other : (ts : List Term) (t : Term) (c : ℕ) → t.minute ≢ c → weight_for (ts ++ t ∷ []) c ≡ weight_for ts c
weight_other [] t c other = rw (ne_eqb t.minute c other) refl
weight_other (d ∷ ds) t c other = ap (cond (d.minute == c) d.weight) (weight_other ds t c other)

-- a row that does not exist has no terms
pub no_terms : (rs : List Row) (i : ℕ) → option_map (λ r. r.terms) (slice_get rs i) ≡ None → (slice_index_or rs i empty_row).terms ≡ []
no_terms [] i e = refl
no_terms (r ∷ rs) zero e = absurd (none-some r.terms (sym e))
no_terms (r ∷ rs) (suc i) e = no_terms rs i e

-- the terms `done` of a row have been added to values, and those `left` have not
pub record Adding (K : Operations) (factor : ℕ) (before : List ℕ) (ts done left : List Term) (values : List ℕ) : Type 0 where
  pub split : done ++ left ≡ ts
  pub long : length values ≡ 64
  pub each : (c : ℕ) → c < 64 → slice_index values c ≡ K.plus (slice_index before c) (K.times factor (weight_for done c))

module _ (F : Lawful) (factor : ℕ) (before : List ℕ) (long : length before ≡ 64) (codes : Codes F.ops.q before) (S : System) (i : ℕ) where
  open F.ops use {plus as ◌⊕◌, times as ◌⊗◌, negative, q}

  infixl 60 ◌⊕◌
  infixl 70 ◌⊗◌
  abbrev ts : List Term
  ts = (row_at S i).terms

  same : (c : ℕ) → c < 64 → slice_index before c ≡ slice_index before c ⊕ factor ⊗ 0
  same c h = sym (mod-eq_of_lt (codes c (omega arith))) ∙ (simp ring)

  pub adding_none : (left : List Term) → left ≡ ts → Adding F.ops factor before ts [] left before
  adding_none left e = record { split = e; long = long; each = same }

  -- the next term
  module _ (formed : WellFormedRow S.width (row_at S i)) (few : S.width ≤ 64) (done left rest : List Term) (t : Term) (values : List ℕ) (A : Adding F.ops factor before ts done left values) (next : left ≡ t ∷ rest) where
    apart : ts ≡ done ++ t ∷ rest
    apart = sym A.split ∙ ap (λ l. done ++ l) next

    here : length done < length ts
    here = let e = ap length apart ∙ length-append done (t ∷ rest) in omega arith

    minute_here : minute_at ts (length done) ≡ t.minute
    minute_here = ap (λ ts. minute_at ts (length done)) apart ∙ ap (λ (t : Term). t.minute) (get_or-append_seam done t rest no_term)

    pub minute_below : t.minute < 64
    minute_below = let b = formed.below (length done) here in let e = minute_here in omega arith

    none_before : Without done t.minute
    none_before k h same =
        let up = formed.rising k (length done) h here in
        let e : minute_at ts k ≡ minute_at done k = ap (λ ts. minute_at ts k) apart ∙ ap (λ (t : Term). t.minute) (get_or_append_left done (t ∷ rest) no_term k h) in
        let e' = minute_here in
        omega arith

    untouched : slice_index values t.minute ≡ slice_index before t.minute
    untouched = A.each t.minute minute_below ∙ ap (λ w. slice_index before t.minute ⊕ factor ⊗ w) (weight_without done t.minute none_before) ∙ sym (same t.minute minute_below)

    pub adding_next : (value : ℕ) → value ≡ slice_index values t.minute ⊕ factor ⊗ t.weight → Adding F.ops factor before ts (done ++ t ∷ []) rest (slice_set values t.minute value)
    adding_next value e =
        record {
          split = append_assoc done (t ∷ []) rest ∙ sym apart;
          long = length-set values t.minute value ∙ A.long;
          each = λ c h. elim (cases_eq c t.minute) [
            | inl own ↦
                rw (own, get_or-set_same values t.minute value 0 (omega (arith, A.long, minute_below)), weight_last done t none_before) (e ∙ ap (λ v. v ⊕ factor ⊗ t.weight) untouched)
            | inr other ↦ rw (get_or-set_other values t.minute c value 0 other, weight_other done t c (λ e. other (sym e))) (A.each c h)
          ];
        }

  -- all terms
  pub adding_all : (done left : List Term) (values : List ℕ) → Adding F.ops factor before ts done left values → left ≡ [] →
      Filled 64 (λ c. slice_index before c ⊕ factor ⊗ entry F.ops S i c) before values
  adding_all done left values A end =
      record {
        long = A.long ∙ sym long;
        done = λ c h.
            A.each c h
            ∙ ap (λ ts. slice_index before c ⊕ factor ⊗ weight_for ts c) (sym (append-nil done) ∙ ap (λ l. done ++ l) (sym end) ∙ A.split)
            ∙ ap (λ w. slice_index before c ⊕ w) (sym (times_right F factor (weight_for ts c)));
        kept = λ k h. get_or_past values k 0 (omega (arith, A.long)) ∙ sym (get_or_past before k 0 (omega (arith, long)));
      }

  -- 0 times a row is nothing
  pub added_zero : Filled 64 (λ c. slice_index before c ⊕ 0 ⊗ entry F.ops S i c) before before
  added_zero =
      record {
        long = refl;
        done = λ c h. sym (mod-eq_of_lt (codes c (omega arith))) ∙ (simp ring);
        kept = λ k h. refl;
      }

-- the rows below r added up, each times u there
pub record ColumnSums (K : Operations) (S : System) (u : ℕ → ℕ) (r : ℕ) (values : List ℕ) : Type 0 where
  pub long : length values ≡ 64
  pub each : (c : ℕ) → c < 64 → slice_index values c ≡ Σ K r (λ i. K.times (u i) (entry K S i c))

module _ (F : Lawful) (S : System) (u : ℕ → ℕ) where
  pub sums_start : (values : List ℕ) → IsVector 64 (λ _. 0) values → ColumnSums F.ops S u 0 values
  sums_start values H = record { long = H.long; each = λ c h. H.each c h ∙ sym (Σ-zero F (λ i. F.ops.times (u i) (entry F.ops S i c))) }

  pub sums_codes : (r : ℕ) (values : List ℕ) → ColumnSums F.ops S u r values → Codes F.ops.q values
  sums_codes r values C c h = rw (C.each c (omega (arith, C.long))) (Σ-code F r (λ i. F.ops.times (u i) (entry F.ops S i c)))

  pub sums_next : (r factor : ℕ) (before after : List ℕ) → ColumnSums F.ops S u r before → factor ≡ u r →
      Filled 64 (λ c. F.ops.plus (slice_index before c) (F.ops.times factor (entry F.ops S r c))) before after → ColumnSums F.ops S u (r + 1) after
  sums_next r factor before after C e A =
      let more : suc r ≡ r + 1 = omega arith in
      record {
        long = A.long ∙ C.long;
        each = λ c h.
            A.done c h
            ∙ ap (λ v. F.ops.plus v (F.ops.times factor (entry F.ops S r c))) (C.each c h)
            ∙ ap (λ w. F.ops.plus (Σ F.ops r (λ i. F.ops.times (u i) (entry F.ops S i c))) (F.ops.times w (entry F.ops S r c))) e
            ∙ sym (Σ-suc F r (λ i. F.ops.times (u i) (entry F.ops S i c)))
            ∙ ap (λ n. Σ F.ops n (λ i. F.ops.times (u i) (entry F.ops S i c))) more;
      }

  pub sums_end : (r : ℕ) (values : List ℕ) → ColumnSums F.ops S u r values → r ≡ length S.rows → IsVector 64 (column_value F.ops S u) values
  sums_end r values C e = record { long = C.long; each = λ c h. C.each c h ∙ ap (λ n. Σ F.ops n (λ i. F.ops.times (u i) (entry F.ops S i c))) e }
