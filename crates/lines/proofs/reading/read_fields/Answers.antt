use Rattle.std.proofs.Common.{◌≤◌, length, Ok, ap, ◌∙◌, arith}
use Rattle.std.proofs.lemmas.Result.{err_from_is_err_and}
use Rattle.std.proofs.lemmas.List.{take_all}
use Rattle.lines.specs.Reading.{content}
use Rattle.lines.specs.Tokens.{to_come}
use Rattle.lines.proofs.Exits.{many_refused, check_refused, frame_read}
use Rattle.lines.proofs.reading.read_fields.Goals as goal

pub returns-then-pairs-gt-MOST_TERMS : goal.returns-then-pairs-gt-MOST_TERMS
returns-then-pairs-gt-MOST_TERMS c =
    let read = c.in_ok-terms.ensures in
    many_refused (to_come c.args.fields) _ c.requires c.if-count-eq0.false _ c.in_ok-sum.ensures.value _ c.read_number.ensures.rest read.0 read.1 (omega (arith, read.2, c.if-pairs-gt-MOST_TERMS.true))

pub returns-in_err-frame : goal.returns-in_err-frame
returns-in_err-frame c =
    let p = err_from_is_err_and c.from_residual-in_err-frame.result c.from_residual-in_err-frame.ensures.1 in
    let read = c.in_ok-terms.ensures in
    let few : length read.0 ≤ 16 = omega (arith, read.2, c.if-pairs-gt-MOST_TERMS.false) in
    rw (p.1, p.2)
    (check_refused (to_come c.args.fields) _ c.requires c.if-count-eq0.false _ c.in_ok-sum.ensures.value _ c.read_number.ensures.rest read.0 read.1 _ (c.as_slice.ensures.value ∙ read.3) few _ c.in_err-frame.ensures.answer)

pub returns : goal.returns
returns c =
    let read = c.in_ok-terms.ensures in
    let frame = c.in_ok-frame.ensures in
    let few : length read.0 ≤ 16 = omega (arith, read.2, c.if-pairs-gt-MOST_TERMS.false) in
    let kept = c.as_slice.ensures.value ∙ read.3 in
    let sum = c.from.ensures.0 ∙ frame.frame.sums in
    let terms = c.from.ensures.1 ∙ frame.frame.holds ∙ kept ∙ take_all 16 read.0 few in
    ap Ok (λ i. content (sum i) (terms i))
    ∙ frame_read (to_come c.args.fields) _ c.requires c.if-count-eq0.false _ c.in_ok-sum.ensures.value _ c.read_number.ensures.rest read.0 read.1 _ kept few frame.answer
