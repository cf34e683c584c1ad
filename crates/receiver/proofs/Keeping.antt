-- Each call keeps what a block that has had a use holds. Assumes nothing.
use Rattle.std.proofs.Common.{◌≡◌, ℕ, ◌<◌, ◌↔◌, ◌++◌, Bool, true, false, List, [], ◌∷◌, length, slice_set, Some, None, Ok, Err, Option, Result, sym, refl, ap, subst, ◌∙◌, arith, not-suc-le-zero, true≢false}
use Rattle.std.proofs.lemmas.Bool.{leb-false}
use Rattle.std.proofs.lemmas.Option.{none-some}
use Rattle.std.specs.Option.{is_some}
use Rattle.std.specs.Result.{IsErr}
use Rattle.field.specs.Operations.{Operations}
use Rattle.field.specs.Laws.{Lawful}
use Rattle.frame.specs.declared.refusals.Refusal.{Refusal}
use Rattle.frame.specs.Refusals.{RefusalCase, refused, numbered, numbered_as}
use Rattle.frame.specs.Orders.{refuse, when}
use Rattle.frame.proofs.Apart.{err_ok}
use Rattle.rows.specs.Systems.{Row, System, empty_row, WellFormed}
use Rattle.notes.specs.Notes.{no_codes, noted_code, noted_count, NotesFit, NotesComplete, system_under}
use Rattle.notes.proofs.NoNotes.{no_codes_fit}
use Rattle.rows.specs.declared.sizes.TheConstants.{MOST_MINUTES, MOST_ROWS}
use Rattle.solver.specs.Slices.{IsVector}
use Rattle.solver.specs.Outcomes.{Case, IsFailed, outcome_case}
use Rattle.solver.specs.Runs.{Ran}
use Rattle.solver.specs.Scouts.{ScoutMeaning}
use Rattle.solver.specs.declared.findings.Findings.{Findings}
use Rattle.solver.specs.declared.outcomes.Outcome.{Outcome}
use Rattle.solver.specs.Laws.{Gave, SomeFalse, Settles, RunLaws, SolvedLaws, ContradictionLaws}
use Rattle.receiver.specs.declared.settlements.Settlement.{Settlement}
use Rattle.receiver.specs.Settlements.{settlement_case, settlement_of, IsWhole}
use Rattle.receiver.specs.declared.slips.Slip.{Slip}
use Rattle.receiver.specs.declared.slips.Unspent.{Unspent}
use Rattle.receiver.specs.Slips.{slip_name, unspent_numbered}
use Rattle.receiver.specs.declared.stages.State.{State}
use Rattle.receiver.specs.declared.stages.State.TheVariants.{Gathering, Settled, Disputed}
use Rattle.receiver.specs.Stages.{slip_moved, shown_in}
use Rattle.receiver.specs.Stands.{Stands}
use Rattle.receiver.specs.Contents.{Contents, left_by, emptied, with_note, with_row, without_row, handed_out, taken_back, with_run, run_of, rows_under_notes, state_after, found_by, made}
use Rattle.receiver.specs.Answers.{answer_to_note, answer_to_take}
use Rattle.receiver.specs.Uses.{Call, note_call, take_call, settle_call, slip_call, strike_call, give_back_call, abandon_call, clear_call, Use, nothing, clears, effect, readings, frames, codes_of, system_of}
use Rattle.receiver.specs.Laws.{NotesAre, RowsAre, ToldTruth, Had, Safe, KeepsSafe, BeginsSafe, RunTold, LeavesOne}
use Rattle.receiver.proofs.Held.{safe, rows_fit, has_notes}
use Rattle.receiver.proofs.Changes.{reading_more, row_more, row_struck}
use Rattle.receiver.proofs.Settling.{run_is, settled_number, left_state, minutes_same, blame_same, state_same, state_stands, only_shown}

-- an answer accepted was refused by none
refuse_ok : {X : Type 0} (number : ℕ) (found : Option ℕ) (later : Result X RefusalCase) (x : X) → Ok x ≡ refuse number found later → (found ≡ None) × (Ok x ≡ later)
refuse_ok number None later x e = (refl, e)
refuse_ok number (Some place) later x e = absurd (err_ok (refused number place) x (sym e))

when_none : (b : Bool) → when b ≡ None → b ≡ false
when_none true e = absurd (none-some 0 (sym e))
when_none false e = refl

none_is : (o : Option ℕ) → is_some o ≡ false → o ≡ None
none_is None e = refl
none_is (Some x) e = absurd (true≢false e)

-- what an accepted note says
note_free : (K : Operations) (b : Contents) (c code : ℕ) → Ok tt ≡ answer_to_note K b c code → (c < b.system.width) × (noted_code b.codes c ≡ None)
note_free K b c code e =
    let first = refuse_ok 1 _ _ tt e in
    let second = refuse_ok 2 _ _ tt first.1 in
    let third = refuse_ok 3 _ _ tt second.1 in
    let fourth = refuse_ok 4 _ _ tt third.1 in
    (leb-false b.system.width c (when_none _ second.0), none_is (noted_code b.codes c) (when_none _ fourth.0))

-- what an accepted take says
one_value : (n k : ℕ) → ◌≡◌ {A = Result ℕ RefusalCase} (Ok n) (Ok k) → n ≡ k
one_value n k e = cc

take_last : (K : Operations) (b : Contents) (r : Row) (n : ℕ) → Ok n ≡ answer_to_take K b r → n ≡ length b.system.rows
take_last K b r n e =
    let first = refuse_ok 1 _ _ n e in
    let second = refuse_ok 2 _ _ n first.1 in
    let third = refuse_ok 3 _ _ n second.1 in
    let fourth = refuse_ok 5 _ _ n third.1 in
    one_value n (length b.system.rows) fourth.1

no_notes_are : (K : Operations) → NotesAre no_codes []
no_notes_are K c code = (λ e. absurd (not-suc-le-zero ((no_codes_fit K 0 no_codes refl).minute c code e)), λ h. absurd (not-suc-le-zero h.1))

no_rows_are : RowsAre [] []
no_rows_are = record { frames = λ f h. absurd (not-suc-le-zero h.1); others = λ i h. absurd (not-suc-le-zero h) }

module _ (F : Lawful) (m : ℕ) (calls : Use) where
  -- a call that changes no rows and no notes, and is no accepted settle
  unmoved : (call : Call) (b : Contents) (state : State) → effect call ≡ nothing → ToldTruth F.ops m call calls → Had F.ops m calls b → Had F.ops m (call ∷ calls) (record b { state = state })
  unmoved call b state none told had =
      record {
        width = had.width;
        codes = rw none had.codes;
        rows = rw none had.rows;
        read = rw none had.read;
        taken = rw none had.taken;
        settles = (told, had.settles);
      }

  noted_had : (b : Contents) (c code : ℕ) → NotesFit F.ops b.system.width b.codes → WellFormed b.system → Ok tt ≡ answer_to_note F.ops b c code → Had F.ops m calls b → Had F.ops m (note_call c code (Ok tt) ∷ calls) (with_note b c code)
  noted_had b c code fit formed answer had =
      let free = note_free F.ops b c code answer in
      let there : c < length b.codes = let l = free.0 in omega (arith, fit.long, formed.few_minutes) in
      record {
        width = had.width;
        codes = ap (λ codes. slice_set codes c (Some code)) had.codes;
        rows = had.rows;
        read = reading_more b.codes (readings calls) c code there free.1 had.read;
        taken = had.taken;
        settles = (tt, had.settles);
      }

  taken_had : (b : Contents) (r : Row) (n : ℕ) → Ok n ≡ answer_to_take F.ops b r → Had F.ops m calls b → Had F.ops m (take_call r (Ok n) ∷ calls) (with_row b r)
  taken_had b r n answer had =
      record {
        width = had.width;
        codes = had.codes;
        rows = ap (λ rows. rows ++ (r ∷ [])) had.rows;
        read = had.read;
        taken = row_more b.system.rows (frames calls) n r (take_last F.ops b r n answer) had.taken;
        settles = (tt, had.settles);
      }

  struck_had : (b : Contents) (name n : ℕ) → Had F.ops m calls b → Had F.ops m (strike_call name n (Ok tt) ∷ calls) (without_row b n)
  struck_had b name n had =
      record {
        width = had.width;
        codes = had.codes;
        rows = ap (λ rows. slice_set rows n empty_row) had.rows;
        read = had.read;
        taken = row_struck b.system.rows (frames calls) n had.taken;
        settles = (tt, had.settles);
      }

  cleared_had : (call : Call) (b : Contents) → effect call ≡ clears → ToldTruth F.ops m call calls → Had F.ops m calls b → Had F.ops m (call ∷ calls) (emptied b)
  cleared_had call b clearing told had =
      record {
        width = had.width;
        codes = rw clearing refl;
        rows = rw clearing refl;
        read = rw clearing (no_notes_are F.ops);
        taken = rw clearing no_rows_are;
        settles = (told, had.settles);
      }

-- the laws of the calls of a block
module _ (F : Lawful) (b : Contents) (stand : Stands F.ops b.codes b.system b.state) where
  keeps : (call : Call) (b' left : Contents) → b' ≡ left → Stands F.ops left.codes left.system left.state → ((m : ℕ) (calls : Use) → Had F.ops m calls b → Had F.ops m (call ∷ calls) left) → KeepsSafe F.ops call b b'
  keeps call b' left same stands then m calls had =
      subst (λ b'. Had F.ops m (call ∷ calls) b' × Safe F.ops m (call ∷ calls) b') (sym same)
      (then m calls had, safe F m (call ∷ calls) left (then m calls had) stands)

  refused_keeps : (call : Call) (b' : Contents) → effect call ≡ nothing → ((m : ℕ) (calls : Use) → ToldTruth F.ops m call calls) → b' ≡ b → KeepsSafe F.ops call b b'
  refused_keeps call b' none told same = keeps call b' b same stand (λ m calls had. unmoved F m calls call b b.state none (told m calls) had)

  pub note_keeps : (b' : Contents) (c code : ℕ) (result : Result (Unit {0}) Refusal) → NotesFit F.ops b.system.width b.codes → WellFormed b.system → numbered result ≡ answer_to_note F.ops b c code → b' ≡ left_by result (with_note b c code) b → KeepsSafe F.ops (note_call c code (numbered result)) b b'
  note_keeps b' c code (Ok u) fit formed answer left = keeps _ b' (with_note b c code) left tt (λ m calls. noted_had F m calls b c code fit formed answer)
  note_keeps b' c code (Err e) fit formed answer left = refused_keeps _ b' refl (λ m calls. tt) left

  pub take_keeps : (b' : Contents) (r : Row) (result : Result ℕ Refusal) → numbered result ≡ answer_to_take F.ops b r → b' ≡ left_by result (with_row b r) b → KeepsSafe F.ops (take_call r (numbered result)) b b'
  take_keeps b' r (Ok n) answer left = keeps _ b' (with_row b r) left tt (λ m calls. taken_had F m calls b r n answer)
  take_keeps b' r (Err e) answer left = refused_keeps _ b' refl (λ m calls. tt) left

  pub clear_keeps : (b' : Contents) (result : Result (Unit {0}) Refusal) → b' ≡ left_by result (emptied b) b → KeepsSafe F.ops (clear_call (numbered result)) b b'
  clear_keeps b' (Ok u) left = keeps _ b' (emptied b) left tt (λ m calls. cleared_had F m calls _ b refl tt)
  clear_keeps b' (Err e) left = refused_keeps _ b' refl (λ m calls. tt) left

  moved_stands : (out : Bool) (state : State) → Stands F.ops b.codes b.system state → Stands F.ops b.codes b.system (slip_moved out state)
  moved_stands out Gathering stands = stands
  moved_stands out (Settled minutes) stands = stands
  moved_stands out (Disputed dispute) stands = record { blamed = stands.blamed; refuted = stands.refuted }

  moved_keeps : (call : Call) (b' : Contents) (out : Bool) → effect call ≡ nothing → ((m : ℕ) (calls : Use) → ToldTruth F.ops m call calls) → b' ≡ record b { state = slip_moved out b.state } → KeepsSafe F.ops call b b'
  moved_keeps call b' out none told left = keeps call b' (record b { state = slip_moved out b.state }) left (moved_stands out b.state stand) (λ m calls had. unmoved F m calls call b (slip_moved out b.state) none (told m calls) had)

  module _ {X : Type 0} (M : ScoutMeaning X) (from : X) where
    abbrev run : Ran X
    run = run_of F.ops b M from

    settled_had : (outcome : Case) (m : ℕ) (calls : Use) → IsFailed outcome ↔ SomeFalse F.ops (rows_under_notes F.ops b) run.exchanges → Had F.ops m calls b → Had F.ops m (settle_call run.exchanges (Ok outcome) ∷ calls) (with_run b run)
    settled_had outcome m calls failed had =
        let system : b.system ≡ system_of m calls =
        ap (λ width. record { width = width; rows = b.system.rows }) had.width ∙ ap (λ rows. record { width = m; rows = rows }) had.rows in
        let rows : rows_under_notes F.ops b ≡ system_under F.ops (codes_of calls) (system_of m calls) =
        ap (λ codes. system_under F.ops codes b.system) had.codes ∙ ap (system_under F.ops (codes_of calls)) system in
        record {
          width = had.width;
          codes = had.codes;
          rows = had.rows;
          read = had.read;
          taken = had.taken;
          settles = (subst (λ S. IsFailed outcome ↔ SomeFalse F.ops S run.exchanges) rows failed, had.settles);
        }

    pub settle_accepted : (b' : Contents) (to : X) (f f' : Findings) (o : Outcome) (settlement : Case) → Settles F.ops (rows_under_notes F.ops b) M from to f f' o → settlement ≡ settlement_of run.outcome (noted_count b.codes) b.system.width → Stands F.ops b.codes b.system (with_run b run).state → b' ≡ with_run b run → KeepsSafe F.ops (settle_call run.exchanges (Ok settlement)) b b'
    settle_accepted b' to f f' o settlement s told stands left =
        let same = run_is F.ops b M from to f f' o s in
        let number : settlement.number ≡ s.ran.outcome.number =
        ap (λ (o : Case). o.number) told ∙ settled_number run.outcome (noted_count b.codes) b.system.width ∙ ap (λ (r : Ran X). r.outcome.number) same in
        let failed : IsFailed settlement ↔ SomeFalse F.ops (rows_under_notes F.ops b) run.exchanges =
        subst (λ n. (n ≡ 3) ↔ SomeFalse F.ops (rows_under_notes F.ops b) run.exchanges) (sym number)
        (subst (λ (r : Ran X). IsFailed s.ran.outcome ↔ SomeFalse F.ops (rows_under_notes F.ops b) r.exchanges) (sym same) s.laws.answers.failed) in
        keeps _ b' (with_run b run) left stands (λ m calls. settled_had settlement m calls failed)

    pub settle_refused : (b' : Contents) (result : Result Settlement Refusal) → IsErr result → b' ≡ b → KeepsSafe F.ops (settle_call (left_by result run.exchanges []) (numbered_as settlement_case result)) b b'
    settle_refused b' (Err e) refused left = refused_keeps _ b' refl (λ m calls. tt) left
    settle_refused b' (Ok s) refused left = absurd (true≢false (sym refused))

  pub slip_keeps : (b' : Contents) (result : Result Slip Refusal) → b' ≡ left_by result (handed_out b) b → KeepsSafe F.ops (slip_call (numbered_as slip_name result)) b b'
  slip_keeps b' (Ok slip) left = moved_keeps _ b' true refl (λ m calls. tt) left
  slip_keeps b' (Err e) left = refused_keeps _ b' refl (λ m calls. tt) left

  pub give_back_keeps : (b' : Contents) (name : ℕ) (result : Result (Unit {0}) Unspent) → b' ≡ left_by result (taken_back b) b → KeepsSafe F.ops (give_back_call name (unspent_numbered result)) b b'
  give_back_keeps b' name (Ok u) left = moved_keeps _ b' false refl (λ m calls. tt) left
  give_back_keeps b' name (Err e) left = refused_keeps _ b' refl (λ m calls. tt) left

  pub strike_keeps : (b' : Contents) (name row : ℕ) (result : Result (Unit {0}) Unspent) → b' ≡ left_by result (without_row b row) b → KeepsSafe F.ops (strike_call name row (unspent_numbered result)) b b'
  strike_keeps b' name row (Ok u) left = keeps _ b' (without_row b row) left tt (λ m calls. struck_had F m calls b name row)
  strike_keeps b' name row (Err e) left = refused_keeps _ b' refl (λ m calls. tt) left

  pub abandon_keeps : (b' : Contents) (name : ℕ) (result : Result (Unit {0}) Unspent) → b' ≡ left_by result (emptied b) b → KeepsSafe F.ops (abandon_call name (unspent_numbered result)) b b'
  abandon_keeps b' name (Ok u) left = keeps _ b' (emptied b) left tt (λ m calls. cleared_had F m calls _ b refl tt)
  abandon_keeps b' name (Err e) left = refused_keeps _ b' refl (λ m calls. tt) left

-- a block just made
pub made_begins : (F : Lawful) (b : Contents) (name : ℕ) (S : System) (limit : ℕ) (limits : List ℕ) → b ≡ made name S limit limits → BeginsSafe F.ops b
made_begins F b name S limit limits same = subst (BeginsSafe F.ops) (sym same) (had, safe F S.width [] (made name S limit limits) had tt)
  where
    had : Had F.ops S.width [] (made name S limit limits)
    had = record { width = refl; codes = refl; rows = refl; read = no_notes_are F.ops; taken = no_rows_are; settles = tt }

-- an accepted settle, whose run found this state
module _ {X : Type 0} (F : Lawful) (b : Contents) (fit : NotesFit F.ops b.system.width b.codes) (formed : WellFormed b.system) (M : ScoutMeaning X) (from to : X) (f f' : Findings) (o : Outcome) (s : Settles F.ops (rows_under_notes F.ops b) M from to f f' o) (state : State) (found : state ≡ left_state b.codes (outcome_case o) f') where
  same_run : run_of F.ops b M from ≡ s.ran
  same_run = run_is F.ops b M from to f f' o s

  found_run : state ≡ left_state b.codes s.ran.outcome f'
  found_run = found ∙ ap (λ o. left_state b.codes o f') s.outcome

  pub state_is : IsVector MOST_MINUTES (λ _. 0) f.minutes → IsVector MOST_ROWS (λ _. 0) f.blame → state ≡ (with_run b (run_of F.ops b M from)).state
  state_is minutes blame =
      found_run
      ∙ state_same b.codes s.ran.outcome s.ran.exchanges f f' minutes blame s.writes
      ∙ ap (λ (r : Ran X). state_after b.codes r.outcome (found_by r) (found_by r)) (sym same_run)

  pub found_stands : Stands F.ops b.codes b.system state
  found_stands =
      subst (Stands F.ops b.codes b.system) (sym found_run)
      (state_stands F b.codes b.system fit formed.few_minutes formed.few_rows M from s.ran s.ran.outcome f' refl s.laws)

  -- it is told so
  module _ (settlement : Case) (told : settlement ≡ settlement_of (outcome_case o) (noted_count b.codes) b.system.width) where
    pub told_run : settlement ≡ settlement_of (run_of F.ops b M from).outcome (noted_count b.codes) b.system.width
    told_run =
        told
        ∙ ap (λ o. settlement_of o (noted_count b.codes) b.system.width) s.outcome
        ∙ ap (λ (r : Ran X). settlement_of r.outcome (noted_count b.codes) b.system.width) (sym same_run)

    -- where it is told as whole it leaves one choice
    pub leaves_one : (b' : Contents) → NotesComplete F.ops b.codes b.system → b'.system ≡ b.system → b'.state ≡ state → IsWhole settlement → LeavesOne F.ops b b'
    leaves_one b' complete rows same whole m calls had y chosen fits c h =
        let whole_run = subst IsWhole (told ∙ ap (λ o. settlement_of o (noted_count b.codes) b.system.width) s.outcome) whole in
        ap (λ S. shown_in b'.state S.width c) rows
        ∙ ap (λ t. shown_in t b.system.width c) (same ∙ found_run)
        ∙ only_shown F b.codes b.system fit formed.few_minutes formed.few_rows M from to f f' o s complete whole_run
        y (rows_fit F m calls b had y fits) (has_notes F m calls b had y fits fit) c (omega (arith, had.width)) (chosen c h)

  pub run_told : IsVector MOST_MINUTES (λ _. 0) f.minutes → IsVector MOST_ROWS (λ _. 0) f.blame → RunTold F.ops b M from
  run_told minutes blame =
      let S = rows_under_notes F.ops b in
      let laws : RunLaws F.ops S M from s.ran (found_by s.ran) (found_by s.ran) =
      record {
        solved = λ e. subst (SolvedLaws F.ops S s.ran) (minutes_same b.codes s.ran.outcome s.ran.exchanges f f' minutes blame s.writes e) (s.laws.solved e);
        contradiction = λ e. subst (ContradictionLaws F.ops S s.ran) (blame_same b.codes s.ran.outcome s.ran.exchanges f f' minutes blame s.writes e) (s.laws.contradiction e);
        answers = s.laws.answers;
        pivots = s.laws.pivots;
      } in
      record {
        defined = s.defined ∙ ap Some (sym same_run);
        laws = subst (λ (r : Ran X). RunLaws F.ops S M from r (found_by r) (found_by r)) (sym same_run) laws;
      }

  -- what was asked and answered is the scout's
  pub run_gave : Gave (rows_under_notes F.ops b) M from (run_of F.ops b M from).exchanges to
  run_gave =
      subst (λ to. Gave (rows_under_notes F.ops b) M from (run_of F.ops b M from).exchanges to) (sym s.scout)
      (subst (λ (r : Ran X). Gave (rows_under_notes F.ops b) M from r.exchanges s.ran.scout) (sym same_run) s.laws.answers.gave)
