-- Answers in words. Assumes nothing.
use Rattle.std.specs.Prelude.{◌≡◌, ℕ, ◌+◌, ◌<◌, ◌≤◌, ◌⊎◌, List, [], ◌∷◌, ◌++◌, length, take, min}
use Rattle.std.specs.Prelude.{slice_index}
use Rattle.field.specs.Operations.{Operations}
use Rattle.rows.specs.Systems.{System}
use Rattle.solver.specs.declared.findings.Findings.{Findings}
use Rattle.solver.specs.declared.outcomes.Count.{Count}
use Rattle.solver.specs.declared.outcomes.Outcome.{Outcome}
use Rattle.solver.specs.declared.outcomes.Outcome.TheVariants.{Solved, Contradiction, Failed}
use Rattle.solver.specs.declared.outcomes.Extent.TheVariants as Extents
use Rattle.solver.specs.declared.scouts.Scan.{Scan}
use Rattle.solver.specs.Outcomes.{extent_of, extent_case, outcome_case, IsFailed}
use Rattle.solver.specs.Scouts.{scan_meaning}
use Rattle.solver.specs.Laws.{Settles}
use Rattle.solverspeed.specs.Hours.{IsHour, IsNoHour}
use Rattle.solverspeed.specs.declared.Kind.{Kind}
use Rattle.solverspeed.specs.declared.Kind.TheVariants as kinds

-- the number of a kind
abbrev pub number : Kind → ℕ
number kinds.Part = 0
number kinds.Whole = 1
number kinds.Contradiction = 2
number kinds.Failed = 3
number kinds.NoHour = 4

abbrev pub word : ℕ → ℕ
word n = min n 65535

-- the words before what was found
abbrev pub head : Kind → Count → List ℕ
head kind c = number kind ∷ word c.pivots ∷ word c.questions ∷ []

-- an answer is written as far as there is room for it, and nothing behind it
pub record Written (kind : Kind) (c : Count) (found before after : List ℕ) : Type 0 where
  pub long : length after ≡ length before
  pub heads : (k : ℕ) → k < length (head kind c) → k < length before
      → slice_index after k ≡ slice_index (head kind c) k
  pub finds : (k : ℕ) → k < length found → k + length (head kind c) < length before
      → slice_index after (k + length (head kind c)) ≡ slice_index found k
  pub kept : (k : ℕ) → length (head kind c ++ found) ≤ k
      → slice_index after k ≡ slice_index before k

abbrev pub nothing : Count
nothing = record { pivots = 0; questions = 0 }

-- solved, in part or whole; no minutes are noted
abbrev pub SolvedAs : System → Count → Kind → Type 0
SolvedAs S c kinds.Part = extent_of c.pivots 0 S.width ≡ extent_case Extents.Part
SolvedAs S c kinds.Whole = extent_of c.pivots 0 S.width ≡ extent_case Extents.Whole
SolvedAs S c kinds.Contradiction = ⊥
SolvedAs S c kinds.Failed = ⊥
SolvedAs S c kinds.NoHour = ⊥

-- an answer says how a run ended: solved and its minutes, or a contradiction and its blame
abbrev pub Says : System → Outcome → Findings → (before after : List ℕ) → Type 0
Says S (Solved c) f before after =
    (kind : Kind) × SolvedAs S c kind × Written kind c (take S.width f.minutes) before after
Says S (Contradiction c) f before after =
    Written kinds.Contradiction c (take (length S.rows) f.blame) before after
Says S (Failed e) f before after = Written kinds.Failed nothing [] before after

-- an answer says how a settle of these rows by the scan ended
pub record Settled (K : Operations) (S : System) (before after : List ℕ) : Type 0 where
  pub from : Findings
  pub to : Findings
  pub outcome : Outcome
  pub settles : (scan : Scan) → Settles K S (scan_meaning K) scan scan from to outcome
  pub never_failed : ¬ IsFailed (outcome_case outcome)
  pub says : Says S outcome to before after

-- an answer to words: that they say no hour, or how a settle of the hour that they say ended
abbrev pub SettledHour : Operations → (words before after : List ℕ) → Type 0
SettledHour K words before after =
    (IsNoHour words × Written kinds.NoHour nothing [] before after)
    ⊎ ((S : System) × IsHour words S × Settled K S before after)
