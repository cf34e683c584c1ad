use Rattle.std.proofs.Common.{inl, inr}
use Rattle.rows.specs.Tables.{system_of}
use Rattle.solverspeed.proofs.settle_hour.Goals as goal

pub returns-in-Some : goal.returns-in-Some
returns-in-Some g c = inr (system_of c.in-Some.table, c.in-Some.ensures, c.settle_table.ensures)

pub returns-in-None : goal.returns-in-None
returns-in-None g c = inl (c.in-None.ensures, c.write_answer.ensures)
