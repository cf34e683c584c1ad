use Rattle.std.proofs.Common.{arith}
use Rattle.rows.specs.Systems.{row_at}
use Rattle.rows.proofs.Readings.{next_left, read_term}
use Rattle.rows.proofs.terms.RowTermsIterator.next.Goals as goal

pub returns-clause-steps : goal.returns-clause-steps
returns-clause-steps g c =
    let s = c.args.self.now in
    let S = g.R.Rows.system s.rows.now in
    let step = c.in_ok-number.ensures.steps in
    rw (c.term.ensures, read_term S s.row c.in_ok-number.number, step.0, step.1.1, step.1.2) (next_left (row_at S s.row).terms s.numbers.start s.numbers.end (omega (arith, step.1.0)))
