-- Reports, from their parts. Assumes nothing.
use Rattle.std.proofs.Common.{◌≡◌, ℕ, List, length, Ok, Err, Option, Result, ap, ◌∙◌}
use Rattle.std.specs.Result.{IfOk}
use Rattle.field.specs.Operations.{Operations}
use Rattle.field.specs.Slices.{Filled}
use Rattle.rows.specs.Systems.{System}
use Rattle.rows.specs.Values.{choice}
use Rattle.notes.specs.Notes.{noted_count, put_in, system_under}
use Rattle.solver.specs.declared.findings.Findings.{Findings}
use Rattle.solver.specs.declared.outcomes.Outcome.{Outcome}
use Rattle.solver.specs.Profiling.{profile_of}
use Rattle.reports.specs.Reports.{shown, ScanSettles, lines_text, report_text, Reports, ReportsNoted}

module _ {T E : Type 0} (bytes : T → List ℕ) (K : Operations) where
  -- the lines are those of the rows
  pub text_reported : (S : System) (outcome : Outcome) (noted : ℕ) (f : Findings) (rows : List ℕ) (width : ℕ) (codes : List ℕ) → rows ≡ profile_of K S → width ≡ S.width → codes ≡ shown outcome S f.minutes f.blame →
      (r : Result T E) → IfOk r (λ s. bytes s ≡ lines_text rows outcome noted width codes) → IfOk r (λ s. bytes s ≡ report_text K S outcome noted f.minutes f.blame)
  text_reported S outcome noted f rows width codes e h g (Ok s) is =
      is
      ∙ ap (λ rows. lines_text rows outcome noted width codes) e
      ∙ ap (λ width. lines_text (profile_of K S) outcome noted width codes) h
      ∙ ap (lines_text (profile_of K S) outcome noted S.width) g
  text_reported S outcome noted f rows width codes e h g (Err d) is = tt

  pub reported : (S : System) (outcome : Outcome) (after : Findings) → ScanSettles K S outcome after →
      (r : Result T E) → IfOk r (λ s. bytes s ≡ report_text K S outcome 0 after.minutes after.blame) → IfOk r (λ s. Reports K S (bytes s))
  reported S outcome after settles (Ok s) is = record { outcome = outcome; after = after; settles = settles; text_is = is }
  reported S outcome after settles (Err d) is = tt

  pub reported_noted : (codes : List (Option ℕ)) (S : System) (outcome : Outcome) (after : Findings) → ScanSettles K (system_under K codes S) outcome after →
      (minutes : List ℕ) → Filled (length after.minutes) (put_in codes (choice after.minutes)) after.minutes minutes → (noted : ℕ) → noted ≡ noted_count codes →
      (r : Result T E) → IfOk r (λ s. bytes s ≡ report_text K (system_under K codes S) outcome noted minutes after.blame) → IfOk r (λ s. ReportsNoted K codes S (bytes s))
  reported_noted codes S outcome after settles minutes put noted e (Ok s) is =
      record {
        outcome = outcome;
        after = after;
        settles = settles;
        minutes = minutes;
        noted = put;
        text_is = is ∙ ap (λ noted. report_text K (system_under K codes S) outcome noted minutes after.blame) e;
      }
  reported_noted codes S outcome after settles minutes put noted e (Err d) is = tt
