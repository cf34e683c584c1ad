use Rattle.std.proofs.Common.{length, ap, arith}
use Rattle.lines.proofs.Cuts.{next_field}
use Rattle.lines.proofs.fields.FieldsIterator.next.Goals as goal

pub returns-clause-steps : goal.returns-clause-steps
returns-clause-steps c =
    let s = c.args.self.now in
    (_, next_field s.line.now s.at c.part_end-end.result c.part_end-end.ensures c.if-self.false, c.new.ensures)

pub returns-clause-goes : goal.returns-clause-goes
returns-clause-goes c =
    let s = c.args.self.now in
    let fewer = ap length (next_field s.line.now s.at c.part_end-end.result c.part_end-end.ensures c.if-self.false) in
    record { on = λ _. (tt, tt, omega arith); keeps = tt; rests = λ _. tt }
