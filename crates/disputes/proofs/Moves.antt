-- A slip handed out and taken back leaves a dispute as it was. Assumes nothing.
use Rattle.std.proofs.Common.{◌≡◌, ℕ, ◌==◌, ◌&&◌, Bool, true, false, not, length, Ok, Err, Result, sym, refl, ap, ◌∙◌, true≢false}
use Rattle.std.proofs.lemmas.Bool.{eq-eqb}
use Rattle.std.specs.Option.{unwrap_or}
use Rattle.frame.specs.Refusals.{RefusalCase, refusal_case, refused}
use Rattle.frame.specs.Orders.{refuse, when}
use Rattle.frame.proofs.Apart.{err_ok}
use Rattle.receiver.specs.declared.stages.State.{State}
use Rattle.receiver.specs.declared.stages.State.TheVariants.{Gathering, Settled, Disputed}
use Rattle.receiver.specs.Stages.{blamed_in, blame_in, slip_out, slip_due, slip_moved}
use Rattle.receiver.specs.Contents.{Contents, left_by, handed_out, taken_back}
use Rattle.receiver.specs.Answers.{answer_to_slip, answer_with_slip, answer_to_strike}
use Rattle.receiver.specs.declared.slips.Unspent.{Unspent}
use Rattle.receiver.specs.Slips.{unspent_numbered}
use Rattle.disputes.specs.Clients.{answer_to_strike_now}

in_hand : (out : Bool) → not out ≡ true → out ≡ false
in_hand true e = absurd (true≢false (sym e))
in_hand false e = refl

-- a dispute whose slip is not out
out_then : (s : State) → slip_due s ≡ true → slip_out (slip_moved true s) ≡ true
out_then Gathering e = absurd (true≢false (sym e))
out_then (Settled minutes) e = absurd (true≢false (sym e))
out_then (Disputed dispute) e = refl

moved_back : (s : State) → slip_due s ≡ true → slip_moved false (slip_moved true s) ≡ s
moved_back Gathering e = refl
moved_back (Settled minutes) e = refl
moved_back (Disputed dispute) e = ap (λ out. Disputed (record dispute { slip_out = out })) (sym (in_hand dispute.slip_out e))

same_blame : (s : State) (n i : ℕ) (out : Bool) → blamed_in (slip_moved out s) n i ≡ blamed_in s n i
same_blame Gathering n i out = refl
same_blame (Settled minutes) n i out = refl
same_blame (Disputed dispute) n i out = refl

-- a slip that was handed out was due, and bears the block's name
due : (b : Contents) (due : Bool) (name : ℕ) → ◌≡◌ {A = Result ℕ RefusalCase} (Ok name) (refuse 7 (when (not due)) (Ok b.name)) → (due ≡ true) × (name ≡ b.name)
due b true name e = (refl, cc)
due b false name e = absurd (err_ok (refused 7 0) name (sym e))

module _ (b : Contents) (name : ℕ) (given : Ok name ≡ answer_to_slip b) where
  pub back : taken_back (handed_out b) ≡ b
  back = ap (λ state. record b { state = state }) (moved_back b.state (due b (slip_due b.state) name given).0)

  takes : (name == b.name) && slip_out (slip_moved true b.state) ≡ true
  takes =
      let slip = due b (slip_due b.state) name given in
      rw (eq-eqb name b.name slip.1, out_then b.state slip.0) refl

  pub strike_refused : (row : ℕ) (answer : Result (Unit {0}) RefusalCase) → answer ≡ answer_to_strike (handed_out b) name row → answer ≡ answer_to_strike_now b row
  strike_refused row answer e =
      e
      ∙ ap (λ t. refuse 8 (when (not t)) (refuse 9 (when (blame_in (slip_moved true b.state) (length b.system.rows) row == 0)) (Ok tt))) takes
      ∙ ap (λ u. refuse 9 (when (unwrap_or u 0 == 0)) (Ok tt)) (same_blame b.state (length b.system.rows) row true)
      ∙ ap (λ t. refuse 7 (when (not t)) (refuse 9 (when (unwrap_or (blamed_in b.state (length b.system.rows) row) 0 == 0)) (Ok tt))) (sym (due b (slip_due b.state) name given).0)

  -- the block's own slip is taken back
  pub returned : (b' : Contents) (result : Result (Unit {0}) Unspent) → unspent_numbered result ≡ answer_with_slip (handed_out b) name → b' ≡ left_by result (taken_back (handed_out b)) (handed_out b) → b' ≡ b
  returned b' (Ok u) answer left = left ∙ back
  returned b' (Err e) answer left =
      absurd (err_ok (refusal_case e.refusal) tt (answer ∙ ap (λ t. refuse 8 (when (not t)) (Ok tt)) takes))
