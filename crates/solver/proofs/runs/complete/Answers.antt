use Rattle.std.proofs.Common.{length, arith}
use Rattle.field.specs.LawsForAll.{lawful}
use Rattle.rows.specs.Values.{entry}
use Rattle.algebra.proofs.Pivots.{count-le_columns}
use Rattle.solver.specs.Steps.Spaces.{pivots_of}
use Rattle.solver.proofs.Completing.{turning_start, turning_next, turning_end}
use Rattle.solver.proofs.runs.complete.Goals as goal

pub loop-outcome-init : goal.loop-outcome-init
loop-outcome-init g c =
    turning_start (lawful g.F.Field.ops g.met.F.Field.laws) (g.R.Rows.system c.args.rows.now) (g.met.R.Rows.formed c.args.rows.now) g.S.Scout.meaning c.args.scout.now c.args.findings.now (pivots_of c.args.pivots.now) c.requires

pub turn-requires : goal.turn-requires
turn-requires g c = c.loop-outcome.invariant.pivots

pub returns-in-Err : goal.returns-in-Err
returns-in-Err g c =
    turning_end (lawful g.F.Field.ops g.met.F.Field.laws) (g.R.Rows.system c.args.rows.now) (g.met.R.Rows.formed c.args.rows.now) g.S.Scout.meaning c.args.scout.now c.args.findings.now
    (pivots_of c.loop-outcome.pivots) c.loop-outcome.scout c.loop-outcome.findings c.loop-outcome.invariant (pivots_of c.turn.new.pivots) c.turn.new.scout c.turn.new.findings c.in-Err.outcome c.in-Err.ensures.turned

pub loop-outcome-smaller : goal.loop-outcome-smaller
loop-outcome-smaller g c =
    let S = g.R.Rows.system c.args.rows.now in
    let grown = c.in_default.ensures.grown in
    let few = count-le_columns (lawful g.F.Field.ops g.met.F.Field.laws) (length S.rows) S.width (entry g.F.Field.ops S) (pivots_of c.turn.new.pivots) grown.0 in
    let more = grown.1 in
    omega arith

pub loop-outcome-preserved : goal.loop-outcome-preserved
loop-outcome-preserved g c =
    turning_next (lawful g.F.Field.ops g.met.F.Field.laws) (g.R.Rows.system c.args.rows.now) (g.met.R.Rows.formed c.args.rows.now) g.S.Scout.meaning c.args.scout.now c.args.findings.now
    (pivots_of c.loop-outcome.pivots) c.loop-outcome.scout c.loop-outcome.findings c.loop-outcome.invariant (pivots_of c.turn.new.pivots) c.turn.new.scout c.turn.new.findings c.in_default.ensures.turned c.in_default.ensures.grown
