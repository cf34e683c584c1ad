-- What a block that has had a use holds is safe. Assumes nothing.
use Rattle.std.proofs.Common.{◌≡◌, ℕ, ◌%◌, ◌<◌, ◌⊎◌, inl, inr, cond, List, length, Some, None, Option, sym, refl, ap, subst, ◌∙◌, arith, mod-eq_of_lt}
use Rattle.std.specs.Option.{unwrap_or}
use Rattle.std.specs.List.{Contains}
use Rattle.std.proofs.Math.Path.{fun_ext}
use Rattle.std.proofs.lemmas.Bool.{lt-ltb}
use Rattle.std.specs.List.{slice_get}
use Rattle.std.proofs.lemmas.Option.{none-some, slice_get-get_or}
use Rattle.field.specs.Operations.{Operations}
use Rattle.field.specs.Laws.{Lawful}
use Rattle.field.proofs.FieldLemmas as field
use Rattle.rows.specs.Systems.{System, empty_row, row_at}
use Rattle.rows.specs.Values.{choice, weighted, Satisfies, SatisfiesAll}
use Rattle.notes.specs.Notes.{noted_code, put_in, system_under, NotesFit, HasNotes}
use Rattle.notes.proofs.Satisfied.{all_satisfied}
use Rattle.receiver.specs.declared.stages.State.{State}
use Rattle.receiver.specs.declared.stages.State.TheVariants.{Gathering, Settled, Disputed}
use Rattle.receiver.specs.Stages.{IsSettled, IsDisputed, shown_in, blame_in}
use Rattle.solver.specs.Laws.{Impossible}
use Rattle.receiver.specs.Stands.{MinutesStand, Stands}
use Rattle.receiver.specs.Contents.{Contents}
use Rattle.receiver.specs.Uses.{Use, frames}
use Rattle.receiver.specs.Laws.{IsChoice, Fits, Had, Safe}

-- a row without terms is satisfied by every choice
empty_satisfied : (F : Lawful) (x : ℕ → ℕ) → Satisfies F.ops empty_row x
unfolding weighted
empty_satisfied F x = sym (field.zero-mod-q F)

-- what a settled block shows at its minutes
module _ {K : Operations} {codes : List (Option ℕ)} {S : System} (minutes : List ℕ) (stand : MinutesStand K codes S minutes) where
  pub shown_inside : (c : ℕ) → c < S.width → shown_in (Settled minutes) S.width c ≡ Some (choice minutes c)
  shown_inside c h = ap (λ t. cond t (slice_get minutes c) None) (lt-ltb c S.width h) ∙ slice_get-get_or minutes c 0 (omega (arith, stand.long))

  shows_noted : NotesFit K S.width codes → (c code : ℕ) → noted_code codes c ≡ Some code → shown_in (Settled minutes) S.width c ≡ Some code
  shows_noted fit c code e = shown_inside c (fit.minute c code e) ∙ ap Some (stand.noted c code e)

-- a settled block shows the noted codes
module _ (K : Operations) (codes : List (Option ℕ)) (S : System) (fit : NotesFit K S.width codes) where
  pub notes_shown : (state : State) → Stands K codes S state → IsSettled state → (c code : ℕ) → noted_code codes c ≡ Some code → shown_in state S.width c ≡ Some code
  notes_shown Gathering stand e c code noted = absurd (let z : ◌≡◌ {A = ℕ} 1 2 = e in omega arith)
  notes_shown (Settled minutes) stand e c code noted = shows_noted minutes stand fit c code noted
  notes_shown (Disputed dispute) stand e c code noted = absurd (let z : ◌≡◌ {A = ℕ} 3 2 = e in omega arith)

-- the rows that a disputed block blames are impossible together
pub blame_impossible : (K : Operations) (codes : List (Option ℕ)) (S : System) (state : State) → Stands K codes S state → IsDisputed state → Impossible K (system_under K codes S) (blame_in state (length S.rows))
blame_impossible K codes S Gathering stand e = absurd (let z : ◌≡◌ {A = ℕ} 1 3 = e in omega arith)
blame_impossible K codes S (Settled minutes) stand e = absurd (let z : ◌≡◌ {A = ℕ} 2 3 = e in omega arith)
blame_impossible K codes S (Disputed dispute) stand e = stand.blamed

-- a choice that fits a use
module _ (F : Lawful) (m : ℕ) (calls : Use) (b : Contents) (had : Had F.ops m calls b) where
  module _ (x : ℕ → ℕ) (fits : Fits F.ops calls x) where
    row_fits : (i : ℕ) → ((row_at b.system i) ≡ empty_row) ⊎ Contains (frames calls) (record { number = i; row = row_at b.system i }) → Satisfies F.ops (row_at b.system i) x
    row_fits i (inl empty) = subst (λ r. Satisfies F.ops r x) (sym empty) (empty_satisfied F x)
    row_fits i (inr taken) = fits.taken (record { number = i; row = row_at b.system i }) taken

    pub rows_fit : SatisfiesAll F.ops b.system x
    rows_fit i h = row_fits i (had.taken.others i h)

    reading_fits : (c code : ℕ) → noted_code b.codes c ≡ Some code → x c ≡ code
    reading_fits c code noted = fits.read (record { minute = c; code = code }) ((had.read c code).0 noted)

    put_same : (c : ℕ) (noted : Option ℕ) → noted_code b.codes c ≡ noted → unwrap_or noted (x c) ≡ x c
    put_same c (Some code) e = sym (reading_fits c code e)
    put_same c None e = refl

    put_nothing : put_in b.codes x ≡ x
    put_nothing = fun_ext (λ c. put_same c (noted_code b.codes c) refl)

    -- it satisfies the rows under the notes
    pub under_fits : SatisfiesAll F.ops (system_under F.ops b.codes b.system) x
    under_fits = (all_satisfied F b.codes x b.system).1 (subst (SatisfiesAll F.ops b.system) (sym put_nothing) rows_fit)

    pub has_notes : NotesFit F.ops b.system.width b.codes → HasNotes F.ops b.codes x
    has_notes fit c code noted = ap (λ z. z % F.ops.q) (reading_fits c code noted) ∙ mod-eq_of_lt (fit.code c code noted)

  -- the minutes of a settled block fit
  minutes_fit : (minutes : List ℕ) → MinutesStand F.ops b.codes b.system minutes → Fits F.ops calls (choice minutes)
  minutes_fit minutes stand =
      record {
        read = λ r held. stand.noted r.minute r.code ((had.read r.minute r.code).1 held);
        taken = λ f held.
            let there = had.taken.frames f held in
            subst (λ r. Satisfies F.ops r (choice minutes)) there.1 (stand.satisfied f.number there.0);
      }

  -- a choice of all minutes that is shown in this state, and fits
  abbrev Shows : State → Type 0
  Shows state = (x : ℕ → ℕ) × IsChoice F.ops m x × ((d : ℕ) → d < m → shown_in state b.system.width d ≡ Some (x d)) × Fits F.ops calls x

  settled_fits : (state : State) → Stands F.ops b.codes b.system state → IsSettled state → Shows state
  settled_fits Gathering stand e = absurd (let z : ◌≡◌ {A = ℕ} 1 2 = e in omega arith)
  settled_fits (Disputed dispute) stand e = absurd (let z : ◌≡◌ {A = ℕ} 3 2 = e in omega arith)
  settled_fits (Settled minutes) stand e = (
    choice minutes,
    λ d h. stand.below d (omega (arith, had.width)),
    λ d h. shown_inside minutes stand d (omega (arith, had.width)),
    minutes_fit minutes stand,
  )

  shown_fits : (state : State) → Stands F.ops b.codes b.system state → (c code : ℕ) → shown_in state b.system.width c ≡ Some code → Shows state
  shown_fits Gathering stand c code e = absurd (none-some code e)
  shown_fits (Disputed dispute) stand c code e = absurd (none-some code e)
  shown_fits (Settled minutes) stand c code e = settled_fits (Settled minutes) stand refl

  none_fits : (state : State) → Stands F.ops b.codes b.system state → IsDisputed state → (x : ℕ → ℕ) → IsChoice F.ops m x → ¬ Fits F.ops calls x
  none_fits Gathering stand e x chosen fits = absurd (let z : ◌≡◌ {A = ℕ} 1 3 = e in omega arith)
  none_fits (Settled minutes) stand e x chosen fits = absurd (let z : ◌≡◌ {A = ℕ} 2 3 = e in omega arith)
  none_fits (Disputed dispute) stand e x chosen fits = stand.refuted x (under_fits x fits)

  pub safe : Stands F.ops b.codes b.system b.state → Safe F.ops m calls b
  safe stand = record { settled = settled_fits b.state stand; shown = shown_fits b.state stand; disputed = none_fits b.state stand; settles = had.settles }
