-- What is read so far is the table's; each turn takes words away. Assumes nothing.
use Rattle.std.specs.Prelude.{length}
use Rattle.rows.specs.Tables.{system_of}
use Rattle.solverspeed.specs.Steps.{ReadSoFar}
use Rattle.solverspeed.proofs.read_hour.Given as goal

abbrev pub decreases-loop-rest : goal.decreases-loop-rest
decreases-loop-rest l = length l.rest

abbrev pub invariant-loop-rest : goal.invariant-loop-rest
invariant-loop-rest l = ReadSoFar l.hour (system_of l.table) l.rest
