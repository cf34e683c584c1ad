use Rattle.std.proofs.Common.{length, arith}
use Rattle.std.proofs.lemmas.List.{at_drop_all}
use Rattle.lines.specs.Fields.{split}
use Rattle.lines.proofs.Cuts.{cut_at, count_separator, count_other, length-placed}
use Rattle.lines.proofs.fields.count_fields.Goals as goal
use Rattle.lines.proofs.fields.count_fields.Goals.{then-byte-eq44, else-byte-eq44}

pub loop-byte-preserved : goal.loop-byte-preserved
loop-byte-preserved c =
    elim c.if-byte-eq44.branch [
      | then-byte-eq44 w ↦
          let one = count_separator 44 c.args.line.now c.loop-byte.byte-index c.loop-byte-test.true w.if-byte-eq44.true in
          (omega (arith, w.count-is), omega (arith, w.count-is))
      | else-byte-eq44 w ↦
          let none = count_other 44 c.args.line.now c.loop-byte.byte-index c.loop-byte-test.true w.if-byte-eq44.false in
          (omega (arith, w.count-is), omega (arith, w.count-is))
    ]

pub returns : goal.returns
returns c =
    let line = c.args.line.now in
    let end = at_drop_all (λ l. length (split 44 l)) line c.loop-byte.byte-index c.loop-byte-test.false in
    record { value = omega (arith, length-placed 0 (split 44 line)); cut = cut_at 44 line }
