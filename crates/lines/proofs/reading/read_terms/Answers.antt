use Rattle.std.proofs.Common.{◌≡◌, drop, sym, ap, ◌∙◌, arith}
use Rattle.std.proofs.lemmas.Bool.{eqb-true, eqb-false}
use Rattle.lines.specs.Reading.{first_number}
use Rattle.lines.specs.Tokens.{to_come}
use Rattle.lines.proofs.Turns.{sofar_kept, sofar_past}
use Rattle.lines.proofs.reading.read_terms.Goals as goal
use Rattle.lines.proofs.reading.read_terms.Goals.{then-not-is_full, else-not-is_full}

pub loop-preserved : goal.loop-preserved
loop-preserved c =
    let rest : to_come c.read_number-in-loop.new.fields ≡ drop 1 (drop 1 (to_come c.loop.fields)) = c.read_number-in-loop.ensures.rest ∙ ap (drop 1) c.read_number.ensures.rest in
    let minute = sym c.in_ok-minute.ensures.value in
    let weight = sym (c.in_ok-weight.ensures.value ∙ ap first_number c.read_number.ensures.rest) in
    elim c.if-not-is_full.branch [
      | then-not-is_full w ↦
          rw (rest, w.terms-is, w.push.ensures.items) (sofar_kept _ _ _ _ _ c.loop.invariant c.loop-test.true _ _ minute weight (omega (arith, c.is_full.ensures.fits, eqb-false _ 16 (sym w.if-not-is_full.ensures.value))))
      | else-not-is_full w ↦
          rw (rest, w.terms-is) (sofar_past _ _ _ _ _ c.loop.invariant c.loop-test.true _ _ minute weight (eqb-true _ 16 (sym w.if-not-is_full.ensures.value)))
    ]
