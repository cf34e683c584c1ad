use Rattle.std.proofs.Common.{length, sym, arith}
use Rattle.std.proofs.lemmas.Bool.{eqb-false, eqb-true}
use Rattle.rows.specs.Tables.{system_of}
use Rattle.rows.specs.Lemmas.SlotRows.{table_formed}
use Rattle.solverspeed.proofs.Hours.{one_row, no_row, all_rows}
use Rattle.solverspeed.proofs.read_hour.Goals as goal

pub loop-rest-preserved : goal.loop-rest-preserved
loop-rest-preserved c =
    let taken = c.in_ok-rest.ensures.taken in
    one_row c.args.hour.now c.loop-rest.rest.now c.in_ok-rest.rest.now (system_of c.loop-rest.table) (system_of c.take_row.new.table) taken.0 taken.1 c.loop-rest.invariant

pub returns-in_err-rest : goal.returns-in_err-rest
returns-in_err-rest c =
    let some = eqb-false (length c.loop-rest.rest.now) 0 (sym c.loop-rest-test.ensures) in
    rw (c.from_residual-in_err-rest.ensures) (no_row c.args.hour.now c.loop-rest.rest.now (system_of c.loop-rest.table) (omega (arith, some)) c.loop-rest.invariant c.in_err-rest.ensures.taken)

pub returns : goal.returns
returns c = all_rows c.args.hour.now c.loop-rest.rest.now (system_of c.loop-rest.table) (eqb-true (length c.loop-rest.rest.now) 0 (sym c.loop-rest-test.ensures)) c.loop-rest.invariant (table_formed c.loop-rest.table)
