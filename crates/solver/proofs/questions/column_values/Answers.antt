use Rattle.std.proofs.Common.{arith}
use Rattle.field.specs.LawsForAll.{lawful}
use Rattle.rows.specs.Values.{choice}
use Rattle.solver.proofs.AddedRows.{sums_start, sums_codes, sums_next, sums_end}
use Rattle.solver.proofs.questions.column_values.Goals as goal

pub loop-row-init : goal.loop-row-init
loop-row-init g c = sums_start (lawful g.F.Field.ops g.met.F.Field.laws) (g.R.Rows.system c.args.rows.now) (choice c.args.u.now) c.zeros-values.result c.zeros-values.ensures

pub add_row-requires : goal.add_row-requires
add_row-requires g c = sums_codes (lawful g.F.Field.ops g.met.F.Field.laws) (g.R.Rows.system c.args.rows.now) (choice c.args.u.now) c.loop-row.row c.loop-row.values c.loop-row.invariant

pub loop-row-preserved : goal.loop-row-preserved
loop-row-preserved g c =
    sums_next (lawful g.F.Field.ops g.met.F.Field.laws) (g.R.Rows.system c.args.rows.now) (choice c.args.u.now) c.loop-row.row c.factor_at.result c.loop-row.values c.add_row.new.values c.loop-row.invariant c.factor_at.ensures c.add_row.ensures

pub returns : goal.returns
returns g c =
    sums_end (lawful g.F.Field.ops g.met.F.Field.laws) (g.R.Rows.system c.args.rows.now) (choice c.args.u.now) c.loop-row.row c.loop-row.values c.loop-row.invariant (omega (arith, c.row_count-row-end.ensures, c.loop-row-test.false, c.loop-row.auto.row-end))
