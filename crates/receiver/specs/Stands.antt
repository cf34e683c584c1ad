-- What a block's stage means of its notes and rows. Assumes nothing.
use Rattle.std.specs.Prelude.{◌≡◌, ℕ, ◌<◌, ◌≤◌, ⊤, List, length, Some, Option}
use Rattle.field.specs.declared.fields.Field as field
use Rattle.field.specs.Operations.{Operations}
use Rattle.rows.specs.declared.reading.Rows as rows
use Rattle.rows.specs.Systems.{System}
use Rattle.rows.specs.Values.{choice, SatisfiesAll}
use Rattle.notes.specs.declared.layers.Noted.{Noted}
use Rattle.notes.specs.Notes.{noted_code, system_under}
use Rattle.notes.specs.Layers.{codes_in, system_below}
use Rattle.solver.specs.Laws.{Impossible}
use Rattle.receiver.specs.declared.stages.Dispute.{Dispute}
use Rattle.receiver.specs.declared.stages.State.{State}
use Rattle.receiver.specs.declared.stages.State.TheVariants.{Gathering, Settled, Disputed}
use Rattle.receiver.specs.Stages.{blame_in}

-- the minutes of a settled block are codes, have the noted codes, and satisfy every row
pub record MinutesStand (K : Operations) (codes : List (Option ℕ)) (S : System)
    (minutes : List ℕ) : Type 0 where
  pub long : S.width ≤ length minutes
  pub below : (c : ℕ) → c < S.width → choice minutes c < K.q
  pub noted : (c code : ℕ) → noted_code codes c ≡ Some code → choice minutes c ≡ code
  pub satisfied : SatisfiesAll K S (choice minutes)

-- the rows that a disputed block blames are impossible together under the notes, so no minutes
-- satisfy all rows there
pub record DisputeStands (K : Operations) (codes : List (Option ℕ)) (S : System)
    (dispute : Dispute) : Type 0 where
  pub blamed : Impossible K (system_under K codes S) (blame_in (Disputed dispute) (length S.rows))
  pub refuted : (y : ℕ → ℕ) → ¬ SatisfiesAll K (system_under K codes S) y

-- what a state means of noted codes and rows: nothing while the block gathers
abbrev pub Stands : Operations → List (Option ℕ) → System → State → Type 0
Stands K codes S Gathering = ⊤
Stands K codes S (Settled minutes) = MinutesStand K codes S minutes
Stands K codes S (Disputed dispute) = DisputeStands K codes S dispute

-- the same of rows under notes
abbrev pub StandsOver :
    {X Y : Type 0} {F : field.Ghosts X} {R : rows.Ghosts Y} → Noted X Y F R → State → Type 0
StandsOver {F = F} noted state = Stands F.ops (codes_in noted) (system_below noted) state
