-- What a settle leaves is what its run says, and stands. Assumes nothing.
use Rattle.std.proofs.Common.{◌≡◌, ℕ, ◌<◌, ◌≤◌, ◌==◌, ◌+◌, inl, inr, Bool, true, false, cond, List, length, Some, None, Option, slice_index, sym, refl, ap, subst, ◌∙◌, arith, mod-eq_of_lt}
use Rattle.std.specs.Option.{unwrap_or}
use Rattle.std.specs.List.{slice_get}
use Rattle.std.proofs.lemmas.Option.{slice_get-get_or}
use Rattle.std.proofs.lemmas.Bool.{cases_eq, cases_lt, eq-eqb, ne_eqb, eqb-true, lt-ltb}
use Rattle.std.proofs.lemmas.List.{get_or_past, length-map}
use Rattle.std.proofs.Math.Path.{fun_ext}
use Rattle.field.specs.Operations.{Operations}
use Rattle.field.specs.Laws.{Lawful}
use Rattle.field.specs.Slices.{Filled}
use Rattle.rows.specs.declared.sizes.TheConstants.{MOST_MINUTES, MOST_ROWS}
use Rattle.rows.specs.Systems.{System, sum_at}
use Rattle.rows.specs.Values.{choice, entry, SatisfiesAll}
use Rattle.field.specs.Sums.{Σ}
use Rattle.algebra.proofs.Sums.{Σ-congr}
use Rattle.notes.specs.Notes.{noted_code, noted_count, put_in, row_under, system_under, NotesFit, HasNotes, NotesComplete, OnlyChoice}
use Rattle.notes.proofs.Satisfied.{all_satisfied}
use Rattle.solver.specs.declared.findings.Findings.{Findings}
use Rattle.solver.specs.declared.outcomes.Outcome.{Outcome}
use Rattle.solver.specs.declared.outcomes.Extent.TheVariants.{Whole, Part}
use Rattle.solver.specs.Outcomes.{Case, extent_case, extent_of, IsSolved, IsContradiction}
use Rattle.solver.specs.Scouts.{ScoutMeaning}
use Rattle.solver.specs.Runs.{Exchange, Ran, list_of, last_codes, Writes}
use Rattle.solver.specs.Slices.{IsVector}
use Rattle.solver.specs.Laws.{Settles, RunLaws, SolvedLaws, Impossible}
use Rattle.solver.proofs.Filling.{list_of_values, values_hold}
use Rattle.receiver.specs.Stages.{shown_in, blame_in}
use Rattle.receiver.proofs.Held.{shown_inside}
use Rattle.receiver.specs.declared.stages.State.{State}
use Rattle.receiver.specs.declared.stages.State.TheVariants.{Settled, Disputed}
use Rattle.receiver.specs.Settlements.{solved_as, settlement_of, IsWhole}
use Rattle.receiver.specs.Stands.{MinutesStand, Stands}
use Rattle.receiver.specs.Contents.{Contents, rows_under_notes, no_run, run_of, state_after}

-- the run of a settle is the one that settles
pub run_is : {X : Type 0} (K : Operations) (b : Contents) (M : ScoutMeaning X) (from to : X) (f f' : Findings) (o : Outcome) (s : Settles K (rows_under_notes K b) M from to f f' o) → run_of K b M from ≡ s.ran
unfolding run_of
run_is K b M from to f f' o s = ap (λ r. unwrap_or r (no_run from)) s.defined

-- no extent changes how a run ended
pub settled_number : (o : Case) (noted width : ℕ) → (settlement_of o noted width).number ≡ o.number
settled_number o noted width = on (o.number == 1)
  where
    on : (solved : Bool) → (cond solved (solved_as (extent_of (slice_index o.values 0) noted width) o) o).number ≡ o.number
    on true = refl
    on false = refl

-- a run that is told as whole was solved, and its first value and the noted minutes are as many as
-- the minutes
module _ (o : Case) (noted width : ℕ) where
  extent_adds_up : (whole : Bool) → (cond whole (extent_case Whole) (extent_case Part)).number ≡ 1 → whole ≡ true
  extent_adds_up true e = refl
  extent_adds_up false e = absurd (let z : ◌≡◌ {A = ℕ} 2 1 = e in omega arith)

  pub whole_solved : IsWhole (settlement_of o noted width) → IsSolved o
  whole_solved whole = sym (settled_number o noted width) ∙ whole.0

  pub whole_adds_up : IsWhole (settlement_of o noted width) → slice_index o.values 0 + noted ≡ width
  whole_adds_up whole =
      let told : (settlement_of o noted width) ≡ solved_as (extent_of (slice_index o.values 0) noted width) o = rw (eq-eqb o.number 1 (whole_solved whole)) refl in
      let first : (extent_of (slice_index o.values 0) noted width).number ≡ 1 = sym (ap (λ (o : Case). slice_index o.values 0) told) ∙ whole.1 in
      eqb-true (slice_index o.values 0 + noted) width (extent_adds_up (slice_index o.values 0 + noted == width) first)

-- the state after a run that ended so, from what stands in the record
abbrev pub left_state : List (Option ℕ) → Case → Findings → State
left_state codes o f = state_after codes o (choice f.minutes) (choice f.blame)

-- a record of zeros, filled at its first places, holds those values and no others
module _ (codes : List ℕ) (n : ℕ) (f g : List ℕ) (zero : IsVector n (λ _. 0) f) (filled : Filled (length codes) (choice codes) f g) where
  zero_at : (c : ℕ) → choice f c ≡ 0
  zero_at c =
      elim (cases_lt c n) [
        | inl inside ↦ zero.each c inside
        | inr beyond ↦ get_or_past f c 0 (omega (arith, zero.long))
      ]

  filled_at : (c : ℕ) → choice g c ≡ choice codes c
  filled_at c =
      elim (cases_lt c (length codes)) [
        | inl inside ↦ filled.done c inside
        | inr beyond ↦ filled.kept c (omega arith) ∙ zero_at c ∙ sym (get_or_past codes c 0 (omega arith))
      ]

  filled_with : choice g ≡ choice codes
  filled_with = fun_ext filled_at

-- it is the one that the run says
module _ (codes : List (Option ℕ)) (o : Case) (exchanges : List Exchange) (f f' : Findings) (minutes : IsVector MOST_MINUTES (λ _. 0) f.minutes) (blame : IsVector MOST_ROWS (λ _. 0) f.blame) (writes : Writes o exchanges f f') where
  abbrev last : ℕ → ℕ
  last = choice (last_codes exchanges)

  pub minutes_same : IsSolved o → choice f'.minutes ≡ last
  minutes_same solved = filled_with (last_codes exchanges) MOST_MINUTES f.minutes f'.minutes minutes (writes.minutes solved).0

  pub blame_same : IsContradiction o → choice f'.blame ≡ last
  blame_same contradiction = filled_with (last_codes exchanges) MOST_ROWS f.blame f'.blame blame (writes.blame contradiction).1

  pub state_same : left_state codes o f' ≡ state_after codes o last last
  state_same =
      elim (cases_eq o.number 1) [
        | inl solved ↦ rw (eq-eqb o.number 1 solved) (ap (λ x. Settled (list_of MOST_MINUTES (put_in codes x))) (minutes_same solved))
        | inr unsolved ↦
            elim (cases_eq o.number 2) [
              | inl contradiction ↦ rw (ne_eqb o.number 1 unsolved, eq-eqb o.number 2 contradiction) (ap (λ u. Disputed (record { blame = list_of MOST_ROWS u; slip_out = false })) (blame_same contradiction))
              | inr failed ↦ rw (ne_eqb o.number 1 unsolved, ne_eqb o.number 2 failed) refl
            ]
      ]

-- blame that is the same at every row is as impossible
module _ (F : Lawful) (S : System) (u v : ℕ → ℕ) (same : (i : ℕ) → i < length S.rows → u i ≡ v i) where
  weighted_same : (f : ℕ → ℕ) → Σ F.ops (length S.rows) (λ i. F.ops.times (u i) (f i)) ≡ Σ F.ops (length S.rows) (λ i. F.ops.times (v i) (f i))
  weighted_same f = Σ-congr F (length S.rows) _ _ (λ i h. ap (λ z. F.ops.times z (f i)) (same i h))

  pub impossible_same : Impossible F.ops S u → Impossible F.ops S v
  impossible_same blamed = (
    λ c h. sym (weighted_same (λ i. entry F.ops S i c)) ∙ blamed.0 c h,
    λ e. blamed.1 (weighted_same (sum_at S) ∙ e),
  )

-- u as it is blamed
blamed_inside : (u : ℕ → ℕ) (n : ℕ) → n ≤ MOST_ROWS → (i : ℕ) → i < n → blame_in (Disputed (record { blame = list_of MOST_ROWS u; slip_out = false })) n i ≡ u i
blamed_inside u n few i h =
    let values = values_hold MOST_ROWS u in
    ap (λ t. unwrap_or (cond t (slice_get (list_of MOST_ROWS u) i) None) 0) (lt-ltb i n h)
    ∙ ap (λ o. unwrap_or o 0) (slice_get-get_or (list_of MOST_ROWS u) i 0 (omega (arith, few, values.long)))
    ∙ values.each i (omega (arith, few))

-- the noted codes put into all minutes of a record
pub put_list : (codes : List (Option ℕ)) (f : Findings) (xs : List ℕ) → Filled (length f.minutes) (put_in codes (choice f.minutes)) f.minutes xs → xs ≡ list_of MOST_MINUTES (put_in codes (choice f.minutes))
put_list codes f xs filled =
    list_of_values MOST_MINUTES (put_in codes (choice f.minutes)) xs
    (record { long = filled.long ∙ f.minutes_long; each = λ c h. filled.done c (omega (arith, f.minutes_long)) })

-- u as the record holds it
pub blame_list : (f : Findings) → f.blame ≡ list_of MOST_ROWS (choice f.blame)
blame_list f = list_of_values MOST_ROWS (choice f.blame) f.blame (record { long = f.blame_long; each = λ c h. refl })

-- what a run leaves stands
module _ (F : Lawful) (codes : List (Option ℕ)) (S : System) (fit : NotesFit F.ops S.width codes) (few : S.width ≤ MOST_MINUTES) (rows : length S.rows ≤ MOST_ROWS) where
  -- codes with the noted ones put in, as a list of all minutes
  module _ (x : ℕ → ℕ) (below : (c : ℕ) → c < S.width → x c < F.ops.q) (beyond : (c : ℕ) → MOST_MINUTES ≤ c → x c ≡ 0) where
    abbrev all_minutes : List ℕ
    all_minutes = list_of MOST_MINUTES (put_in codes x)

    minute_inside : (c : ℕ) → c < MOST_MINUTES → choice all_minutes c ≡ put_in codes x c
    minute_inside c h = (values_hold MOST_MINUTES (put_in codes x)).each c h

    minutes_long : length all_minutes ≡ MOST_MINUTES
    minutes_long = (values_hold MOST_MINUTES (put_in codes x)).long

    code_beyond : (c : ℕ) (noted : Option ℕ) → noted_code codes c ≡ noted → MOST_MINUTES ≤ c → unwrap_or noted (x c) ≡ 0
    code_beyond c (Some code) e h = absurd (let l = fit.minute c code e in omega arith)
    code_beyond c None e h = beyond c h

    pub minute_at : (c : ℕ) → choice all_minutes c ≡ put_in codes x c
    minute_at c =
        elim (cases_lt c MOST_MINUTES) [
          | inl inside ↦ minute_inside c inside
          | inr outside ↦
              get_or_past all_minutes c 0 (omega (arith, minutes_long))
              ∙ sym (code_beyond c (noted_code codes c) refl (omega arith))
        ]

    code_below : (c : ℕ) (noted : Option ℕ) → noted_code codes c ≡ noted → c < S.width → unwrap_or noted (x c) < F.ops.q
    code_below c (Some code) e h = fit.code c code e
    code_below c None e h = below c h

    pub minutes_stand : SatisfiesAll F.ops (system_under F.ops codes S) x → MinutesStand F.ops codes S all_minutes
    minutes_stand satisfied =
        record {
          long = omega (arith, few, minutes_long);
          below = λ c h. subst (λ z. z < F.ops.q) (sym (minute_at c)) (code_below c (noted_code codes c) refl h);
          noted = λ c code e. minute_at c ∙ ap (λ noted. unwrap_or noted (x c)) e;
          satisfied = subst (SatisfiesAll F.ops S) (sym (fun_ext minute_at)) ((all_satisfied F codes x S).0 satisfied);
        }

  pub state_stands : {X : Type 0} (M : ScoutMeaning X) (from : X) (r : Ran X) (o : Case) (f : Findings) → o ≡ r.outcome → RunLaws F.ops (system_under F.ops codes S) M from r (choice f.minutes) (choice f.blame) → Stands F.ops codes S (left_state codes o f)
  state_stands M from r o f same laws =
      let long = length-map S.rows (row_under F.ops codes) in
      elim (cases_eq o.number 1) [
        | inl number ↦
            let solved = laws.solved (sym (ap (λ (o : Case). o.number) same) ∙ number) in
            rw (eq-eqb o.number 1 number)
            (minutes_stand (choice f.minutes) solved.codes (λ c h. get_or_past f.minutes c 0 (omega (arith, f.minutes_long))) solved.satisfied)
        | inr unsolved ↦
            elim (cases_eq o.number 2) [
              | inl number ↦
                  let contradiction = laws.contradiction (sym (ap (λ (o : Case). o.number) same) ∙ number) in
                  rw (ne_eqb o.number 1 unsolved, eq-eqb o.number 2 number)
                  (record {
                    blamed = impossible_same F (system_under F.ops codes S) (choice f.blame) _ (λ i h. sym (blamed_inside (choice f.blame) (length S.rows) rows i (omega (arith, long)))) contradiction.blamed;
                    refuted = contradiction.refuted;
                  })
              | inr failed ↦ rw (ne_eqb o.number 1 unsolved, ne_eqb o.number 2 failed) tt
            ]
      ]

  -- the run of a settle under the notes, over what the record held before
  module _ {X : Type 0} (M : ScoutMeaning X) (from to : X) (f f' : Findings) (o : Outcome) (s : Settles F.ops (system_under F.ops codes S) M from to f f' o) where
    beyond_minutes : (c : ℕ) → MOST_MINUTES ≤ c → choice f'.minutes c ≡ 0
    beyond_minutes c h = get_or_past f'.minutes c 0 (omega (arith, f'.minutes_long))

    -- a whole one leaves one choice, which is shown
    module _ (complete : NotesComplete F.ops codes S) (whole : IsWhole (settlement_of s.ran.outcome (noted_count codes) S.width)) where
      solved : SolvedLaws F.ops (system_under F.ops codes S) s.ran (choice f'.minutes)
      solved = s.laws.solved (whole_solved s.ran.outcome (noted_count codes) S.width whole)

      only : OnlyChoice F.ops codes S (choice f'.minutes)
      only =
          let pivots = ap (λ (o : Case). slice_index o.values 0) solved.told in
          complete s.ran.pivot_columns (choice f'.minutes) s.laws.pivots.columns
          (omega (arith, whole_adds_up s.ran.outcome (noted_count codes) S.width whole, pivots, s.laws.pivots.as_many)) solved.determined

      whole_shown : (c : ℕ) → c < S.width → shown_in (left_state codes s.ran.outcome f') S.width c ≡ Some (put_in codes (choice f'.minutes) c)
      whole_shown c h =
          rw (eq-eqb s.ran.outcome.number 1 (whole_solved s.ran.outcome (noted_count codes) S.width whole))
          (shown_inside (all_minutes (choice f'.minutes) solved.codes beyond_minutes) (minutes_stand (choice f'.minutes) solved.codes beyond_minutes solved.satisfied) c h
          ∙ ap Some (minute_at (choice f'.minutes) solved.codes beyond_minutes c))

      pub only_shown : (y : ℕ → ℕ) → SatisfiesAll F.ops S y → HasNotes F.ops codes y → (c : ℕ) → c < S.width → y c < F.ops.q → shown_in (left_state codes s.ran.outcome f') S.width c ≡ Some (y c)
      only_shown y satisfied noted c h code = whole_shown c h ∙ ap Some (sym (only y satisfied noted c h) ∙ mod-eq_of_lt code)
