use Rattle.frame.proofs.Apart.{err_ok}
use Rattle.solverspeed.proofs.settle_table.Goals as goal

pub returns-in-Ok : goal.returns-in-Ok
returns-in-Ok g c =
    record {
      from = c.new-findings.result;
      to = c.settle_by_scan.new.findings;
      outcome = c.in-Ok.outcome;
      settles = c.in-Ok.ensures.settles;
      never_failed = c.in-Ok.ensures.never_fails;
      says = c.write_outcome.ensures;
    }

-- the work space is long enough
pub returns-in-Err : goal.returns-in-Err
returns-in-Err g c = absurd (err_ok _ tt c.in-Err.ensures.answer)
