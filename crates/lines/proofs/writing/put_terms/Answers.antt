use Rattle.std.proofs.Common.{◌+◌, ◌∷◌, ◌++◌, drop, decimal, sym, ap, ◌∙◌, subst, append-nil}
use Rattle.std.proofs.lemmas.List.{at_drop_all}
use Rattle.frame.specs.Frames.{minute_at, weight_at}
use Rattle.lines.specs.Appending.{Puts}
use Rattle.lines.specs.Writing.{terms_text}
use Rattle.lines.proofs.Appends.{puts_more, room_for, left_after, term_next}
use Rattle.lines.proofs.writing.put_terms.Goals as goal

pub put_field-requires : goal.put_field-requires
put_field-requires c =
    let so = c.loop-term.invariant in
    let ts = c.args.terms.now in
    let i = c.loop-term.term-index in
    let rest = (44 ∷ decimal (weight_at ts i)) ++ terms_text (drop (i + 1) ts) in
    room_for _ _ so.0 (44 ∷ decimal (minute_at ts i)) rest (terms_text ts) c.requires so.1
    (ap (λ l. so.0 ++ l) (sym (term_next ts i c.loop-term-test.true)) ∙ so.2)

pub put_field-requires-in-loop-term : goal.put_field-requires-in-loop-term
put_field-requires-in-loop-term c =
    let so = c.loop-term.invariant in
    let ts = c.args.terms.now in
    let i = c.loop-term.term-index in
    let weight = 44 ∷ decimal (weight_at ts i) in
    let rest = terms_text (drop (i + 1) ts) in
    let is = ap (λ l. so.0 ++ l) (sym (term_next ts i c.loop-term-test.true)) ∙ so.2 in
    room_for _ _ (so.0 ++ 44 ∷ decimal (minute_at ts i)) weight rest (terms_text ts) c.requires
    (puts_more _ _ _ _ _ so.1 c.put_field.ensures)
    (left_after _ _ so.0 (44 ∷ decimal (minute_at ts i)) (weight ++ rest) (terms_text ts) c.requires so.1 is)

pub loop-term-preserved : goal.loop-term-preserved
loop-term-preserved c =
    let so = c.loop-term.invariant in
    let ts = c.args.terms.now in
    let i = c.loop-term.term-index in
    let minute = 44 ∷ decimal (minute_at ts i) in
    let weight = 44 ∷ decimal (weight_at ts i) in
    let rest = terms_text (drop (i + 1) ts) in
    let is = ap (λ l. so.0 ++ l) (sym (term_next ts i c.loop-term-test.true)) ∙ so.2 in
    let put = puts_more _ _ _ so.0 minute so.1 c.put_field.ensures in
    let more = left_after _ _ so.0 minute (weight ++ rest) (terms_text ts) c.requires so.1 is in
    ((so.0 ++ minute) ++ weight, puts_more _ _ _ (so.0 ++ minute) weight put c.put_field-in-loop-term.ensures, left_after _ _ (so.0 ++ minute) weight rest (terms_text ts) c.requires put more)

pub returns : goal.returns
returns c =
    let so = c.loop-term.invariant in
    let end = at_drop_all terms_text c.args.terms.now c.loop-term.term-index c.loop-term-test.false in
    subst (Puts _ _) (sym (append-nil so.0) ∙ ap (λ l. so.0 ++ l) (sym end) ∙ so.2) so.1
