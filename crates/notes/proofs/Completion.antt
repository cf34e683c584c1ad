-- Under notes a noted minute's column is 0, and enough columns leave one choice only. Assumes nothing.
use Rattle.std.proofs.Common.{◌≡◌, ◌≢◌, ℕ, zero, suc, ◌+◌, ◌%◌, ◌<◌, ◌≤◌, Bool, true, false, cond, List, [], ◌∷◌, length, get_or, Some, None, Option, ◌==◌, sym, refl, ap, subst, ◌∙◌, arith, mod-eq_of_lt}
use Rattle.std.specs.List.{All, AllPairs, Contains}
use Rattle.std.specs.Option.{OnSome, is_none, is_some, unwrap_or}
use Rattle.std.proofs.Math.Nat.{zero-mod, mod-mod}
use Rattle.std.proofs.Math.Path.{fun_ext}
use Rattle.std.proofs.lemmas.Bool.{eqb-true}
use Rattle.std.proofs.lemmas.List.{length-map, get_or_default}
use Rattle.std.proofs.lemmas.Option.{none-some}
use Rattle.field.specs.Operations.{Operations}
use Rattle.field.specs.Laws.{Lawful}
use Rattle.field.proofs.FieldLemmas.{times_right}
use Rattle.frame.specs.declared.terms.Term.{Term}
use Rattle.rows.specs.declared.sizes.TheConstants.{MOST_MINUTES}
use Rattle.rows.specs.Systems.{System, row_at}
use Rattle.rows.specs.Values.{weight_for, weighted, SatisfiesAll}
use Rattle.rows.specs.Columns.{ZeroColumn, DifferentColumns, Determine}
use Rattle.notes.specs.Notes.{noted_code, noted_count, put_in, open_terms, row_under, system_under, NotesFit, NotesComplete}
use Rattle.notes.specs.Lemmas.Under.{row_under_at}
use Rattle.notes.proofs.Counts.{free_at_most}
use Rattle.notes.proofs.Satisfied.{all_satisfied}

-- a noted minute has no term left, and so no weight
module _ (codes : List (Option ℕ)) (c code : ℕ) (noted : noted_code codes c ≡ Some code) where
  passed_over : (t : Term) (rest : List Term) (found : Option ℕ) (same : Bool) → noted_code codes t.minute ≡ found → (t.minute == c) ≡ same → weight_for rest c ≡ 0 → weight_for (cond (is_none found) (t ∷ rest) rest) c ≡ 0
  passed_over t rest (Some k) same is e none = none
  passed_over t rest None true is e none = absurd (none-some code (sym is ∙ ap (noted_code codes) (eqb-true t.minute c e) ∙ noted))
  passed_over t rest None false is e none = rw e none

  weight_gone : (ts : List Term) → weight_for (open_terms codes ts) c ≡ 0
  weight_gone [] = refl
  weight_gone (t ∷ ts) = passed_over t (open_terms codes ts) (noted_code codes t.minute) (t.minute == c) refl refl (weight_gone ts)

  pub noted_zero : (K : Operations) (S : System) → ZeroColumn K (system_under K codes S) c
  noted_zero K S i h =
      let long = length-map S.rows (row_under K codes) in
      let there : i < length S.rows = omega arith in
      ap (λ r. weight_for r.terms c % K.q) (row_under_at K codes S i there)
      ∙ ap (λ w. w % K.q) (weight_gone (row_at S i).terms)
      ∙ zero-mod K.q

-- what is read of a minute tells of its column
pub read_zero : (K : Operations) (codes : List (Option ℕ)) (S : System) (c : ℕ) (found : Option ℕ) → found ≡ noted_code codes c → OnSome found (ZeroColumn K (system_under K codes S) c)
read_zero K codes S c None e = tt
read_zero K codes S c (Some code) e = noted_zero codes c code (sym e) K S

-- a choice has the noted codes as they stand
abbrev Exactly : List (Option ℕ) → (ℕ → ℕ) → Type 0
Exactly codes y = (c code : ℕ) → noted_code codes c ≡ Some code → y c ≡ code

-- a choice y with the noted codes, and x at the noted minutes in its place
module _ (F : Lawful) (codes : List (Option ℕ)) (S : System) (fit : NotesFit F.ops S.width codes) (few : S.width ≤ MOST_MINUTES) (columns : List ℕ) (x y : ℕ → ℕ) where
  mixed : ℕ → ℕ
  mixed c = cond (is_some (noted_code codes c)) (x c) (y c)

  put_back : (c : ℕ) (found : Option ℕ) → noted_code codes c ≡ found → Exactly codes y → unwrap_or found (cond (is_some found) (x c) (y c)) ≡ y c
  put_back c (Some code) is has = sym (has c code is)
  put_back c None is has = refl

  mixed_put_in : Exactly codes y → put_in codes mixed ≡ y
  unfolding mixed
  mixed_put_in has = fun_ext (λ c. put_back c (noted_code codes c) refl has)

  mixed_satisfies : SatisfiesAll F.ops S y → Exactly codes y → SatisfiesAll F.ops (system_under F.ops codes S) mixed
  mixed_satisfies fits has = (all_satisfied F codes mixed S).1 (subst (SatisfiesAll F.ops S) (sym (mixed_put_in has)) fits)

  module _ (different : DifferentColumns F.ops (system_under F.ops codes S) columns) (enough : length columns + noted_count codes ≡ S.width) where
    -- a column is not noted
    open_column : (c : ℕ) (found : Option ℕ) → noted_code codes c ≡ found → ¬ ZeroColumn F.ops (system_under F.ops codes S) c → noted_code codes c ≡ None
    open_column c (Some code) is some = absurd (some (noted_zero codes c code is F.ops S))
    open_column c None is some = is

    -- a minute that is neither a column nor noted would be one too many
    none_left : (c : ℕ) → c < S.width → ¬ Contains columns c → noted_code codes c ≡ None → ⊥
    none_left c h out free =
        let long = fit.long in
        let most =
        free_at_most S.width (c ∷ columns) codes (omega arith) fit.minute inside differ all_free in
        omega arith
      where
        inside : All (λ d. d < S.width) (c ∷ columns)
        inside zero d l = h
        inside (suc k) d l = different.below k d (omega arith)

        differ : AllPairs (λ d e. d ≢ e) (c ∷ columns)
        differ zero zero d l k e = absurd (omega arith)
        differ zero (suc j) d l k e = let there : j < length columns = omega arith in out (j, there, get_or_default columns j c d there ∙ sym e)
        differ (suc i) zero d l k e = absurd (omega arith)
        differ (suc i) (suc j) d l k e = different.differ i j d (omega arith) (omega arith) e

        all_free : All (λ d. noted_code codes d ≡ None) (c ∷ columns)
        all_free zero d l = free
        all_free (suc k) d l = let b = get_or columns k d in open_column b (noted_code codes b) refl (different.none_zero k d (omega arith))

    agrees : (c : ℕ) (found : Option ℕ) → noted_code codes c ≡ found → c < S.width → ¬ Contains columns c → cond (is_some found) (x c) (y c) % F.ops.q ≡ x c % F.ops.q
    agrees c (Some code) is h out = refl
    agrees c None is h out = absurd (none_left c h out is)

    read_at : (c : ℕ) (found : Option ℕ) → noted_code codes c ≡ found → Exactly codes y → cond (is_some found) (x c) (y c) % F.ops.q ≡ x c → y c % F.ops.q ≡ unwrap_or found (x c)
    read_at c (Some code) is has e = ap (λ n. n % F.ops.q) (has c code is) ∙ mod-eq_of_lt (fit.code c code is)
    read_at c None is has e = e

    only : Determine F.ops (system_under F.ops codes S) columns x → SatisfiesAll F.ops S y → Exactly codes y → (c : ℕ) → c < S.width → y c % F.ops.q ≡ put_in codes x c
    unfolding mixed
    only determine fits has c h =
        read_at c (noted_code codes c) refl has
        (determine mixed (mixed_satisfies fits has) (λ d l out. agrees d (noted_code codes d) refl l out) c h)

-- a choice read as codes satisfies what it satisfies
module _ (F : Lawful) (y : ℕ → ℕ) where
  abbrev read : ℕ → ℕ
  read c = y c % F.ops.q

  read_weighted : (ts : List Term) → weighted F.ops ts read ≡ weighted F.ops ts y
  unfolding weighted
  read_weighted [] = refl
  read_weighted (t ∷ ts) = ap (λ v. F.ops.plus v (weighted F.ops ts read)) (times_right F t.weight (y t.minute)) ∙ ap (F.ops.plus (F.ops.times t.weight (y t.minute))) (read_weighted ts)

  read_satisfies : (S : System) → SatisfiesAll F.ops S y → SatisfiesAll F.ops S read
  read_satisfies S fits i h = read_weighted (row_at S i).terms ∙ fits i h

pub notes_complete : (F : Lawful) (codes : List (Option ℕ)) (S : System) → NotesFit F.ops S.width codes → S.width ≤ MOST_MINUTES → NotesComplete F.ops codes S
notes_complete F codes S fit few columns x different enough determine y fits has c h =
    sym (mod-mod (y c) F.ops.q) ∙ only F codes S fit few columns x (read F y) different enough determine (read_satisfies F y S fits) has c h
