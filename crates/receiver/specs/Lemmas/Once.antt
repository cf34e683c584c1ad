-- There is one proof at most of what a stage means. Assumes nothing.
use Rattle.std.specs.Prelude.{ℕ, List, Option}
use Rattle.std.proofs.Props.{props}
use Rattle.field.specs.declared.fields.Field as field
use Rattle.field.specs.Operations.{Operations}
use Rattle.rows.specs.declared.reading.Rows as rows
use Rattle.rows.specs.Systems.{System}
use Rattle.notes.specs.declared.layers.Noted.{Noted}
use Rattle.notes.specs.Layers.{codes_in, system_below}
use Rattle.receiver.specs.declared.stages.Dispute.{Dispute}
use Rattle.receiver.specs.declared.stages.State.{State}
use Rattle.receiver.specs.declared.stages.State.TheVariants.{Gathering, Settled, Disputed}
use Rattle.receiver.specs.Stands.{MinutesStand, DisputeStands, Stands, StandsOver}

-- of any notes, rows and minutes, and of any dispute
minutes_once : {K : Operations} {codes : List (Option ℕ)} {S : System} {minutes : List ℕ} →
    IsProp (MinutesStand K codes S minutes)
minutes_once = Prim.hlevel props

dispute_once : {K : Operations} {codes : List (Option ℕ)} {S : System} {dispute : Dispute} →
    IsProp (DisputeStands K codes S dispute)
dispute_once = Prim.hlevel props

Stands-prop : (K : Operations) (codes : List (Option ℕ)) (S : System) (state : State) →
    IsProp (Stands K codes S state)
Stands-prop K codes S Gathering = Prim.hlevel props
Stands-prop K codes S (Settled minutes) = minutes_once
Stands-prop K codes S (Disputed dispute) = dispute_once

pub StandsOver-prop :
    {X Y : Type 0} {F : field.Ghosts X} {R : rows.Ghosts Y} →
    (noted : Noted X Y F R) (state : State) → IsProp (StandsOver noted state)
StandsOver-prop {F = F} noted state =
    Stands-prop F.ops (codes_in noted) (system_below noted) state
