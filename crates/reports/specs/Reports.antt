-- What is reported of rows. Assumes nothing.
use Rattle.std.specs.Prelude.{◌≡◌, List, ℕ, [], ◌∷◌, ◌++◌, length, take, Option}
use Rattle.field.specs.Operations.{Operations}
use Rattle.field.specs.Slices.{Filled}
use Rattle.rows.specs.Systems.{System}
use Rattle.rows.specs.Values.{choice}
use Rattle.notes.specs.Notes.{noted_count, put_in, system_under}
use Rattle.solver.specs.declared.findings.Findings.{Findings}
use Rattle.solver.specs.declared.outcomes.Outcome.{Outcome}
use Rattle.solver.specs.declared.outcomes.Outcome.TheVariants.{Solved, Contradiction, Failed}
use Rattle.solver.specs.declared.scouts.Scan.{Scan}
use Rattle.solver.specs.Outcomes.{outcome_case, IsFailed}
use Rattle.solver.specs.Scouts.{scan_meaning}
use Rattle.solver.specs.Laws.{Settles}
use Rattle.solver.specs.Profiling.{profile_of}
use Rattle.reports.specs.Texts.{profile_text, outcome_text}

-- the codes that are reported of a run: the minutes or the blame
abbrev pub shown : Outcome → System → (minutes blame : List ℕ) → List ℕ
shown (Solved c) S minutes blame = take S.width minutes
shown (Contradiction c) S minutes blame = take (length S.rows) blame
shown (Failed e) S minutes blame = []

-- a settle by the scan ended so, which did not fail, and this stands in the record after it
pub record ScanSettles (K : Operations) (S : System)
    (outcome : Outcome) (after : Findings) : Type 0 where
  pub before : Findings
  pub settles : (scan : Scan) → Settles K S (scan_meaning K) scan scan before after outcome
  pub never_failed : ¬ IsFailed (outcome_case outcome)

-- a profile's line and an outcome's, each with the byte that ends it
abbrev pub lines_text : List ℕ → Outcome → (noted width : ℕ) → List ℕ → List ℕ
lines_text rows outcome noted width codes =
    profile_text rows ++ 10 ∷ (outcome_text outcome noted width codes ++ 10 ∷ [])

-- the row rank profile of rows, and how a run ended, where so many minutes are noted, with these
-- minutes or this blame
abbrev pub report_text : Operations → System → Outcome → (noted : ℕ) → (minutes blame : List ℕ) →
    List ℕ
report_text K S outcome noted minutes blame =
    lines_text (profile_of K S) outcome noted S.width (shown outcome S minutes blame)

-- a report on rows, as a settle by the scan ended
pub record Reports (K : Operations) (S : System) (text : List ℕ) : Type 0 where
  pub outcome : Outcome
  pub after : Findings
  pub settles : ScanSettles K S outcome after
  pub text_is : text ≡ report_text K S outcome 0 after.minutes after.blame

-- a report on rows under notes: these count, and the noted codes stand at their minutes
pub record ReportsNoted (K : Operations) (codes : List (Option ℕ)) (S : System)
    (text : List ℕ) : Type 0 where
  pub outcome : Outcome
  pub after : Findings
  pub settles : ScanSettles K (system_under K codes S) outcome after
  pub minutes : List ℕ
  pub noted :
      Filled (length after.minutes) (put_in codes (choice after.minutes)) after.minutes minutes
  pub text_is : text
      ≡ report_text K (system_under K codes S) outcome (noted_count codes) minutes after.blame
