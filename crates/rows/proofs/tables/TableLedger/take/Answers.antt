use Rattle.std.proofs.Common.{◌∙◌, arith, rules, length, length-set}
use Rattle.frame.specs.Parts.{terms_of}
use Rattle.rows.specs.declared.sizes.TheConstants.{MOST_ROWS}
use Rattle.rows.specs.Tables.{system_of}
use Rattle.rows.proofs.Beyond.{answer_in_order}
use Rattle.rows.proofs.SlotChanges.{table_answer, has_room, still_below}
use Rattle.rows.proofs.tables.TableLedger.take.Goals as goal

pub invariant_of-self : goal.invariant_of-self
invariant_of-self c =
    let t = c.args.self.now in
    let f = c.args.frame.now in
    let row = c.in_ok-row.row in
    let answer = c.in_ok-row.ensures.answer ∙ table_answer t c.number.result MOST_ROWS f c.number.ensures in
    let room = has_room t c.from.result f row c.from.ensures.1 answer in
    record {
      room = length-set t.slots row _ ∙ t.room;
      few = omega arith;
      below = still_below t c.from.result f row c.from.ensures.1 answer;
    }

pub returns-in_err-row-clause-order : goal.returns-in_err-row-clause-order
returns-in_err-row-clause-order c =
    let S = system_of c.args.self.now in
    answer_in_order S.width (length S.rows) MOST_ROWS (terms_of c.args.frame.now) _ (search (rules, table_answer c.args.self.now c.number.result MOST_ROWS c.args.frame.now c.number.ensures))

pub returns-clause-order : goal.returns-clause-order
returns-clause-order c =
    let S = system_of c.args.self.now in
    answer_in_order S.width (length S.rows) MOST_ROWS (terms_of c.args.frame.now) _ (c.in_ok-row.ensures.answer ∙ table_answer c.args.self.now c.number.result MOST_ROWS c.args.frame.now c.number.ensures)
