use Rattle.lines.specs.Tokens.{to_come}
use Rattle.lines.proofs.Turns.{Sofar}
use Rattle.lines.proofs.reading.read_terms.Given as goal

abbrev pub invariant-loop : goal.invariant-loop
invariant-loop l = Sofar (to_come l.initial.fields) (to_come l.fields) l.count l.counter l.terms.items
