use Rattle.std.proofs.Common.{◌≡◌, ◌≤◌, ◌∷◌, take, arith, sym, ap, ◌∙◌}
use Rattle.rows.specs.Tables.{system_of}
use Rattle.solverspeed.proofs.Reading.{too_many, too_short, begun, no_frame, of_value, no_room}
use Rattle.frame.specs.Parts.{FrameOf}
use Rattle.solverspeed.proofs.take_row.Goals.{then-count-gt-MOST_TERMS-via-then-count-gt-MOST_TERMS, then-count-gt-MOST_TERMS-via-else-count-gt-MOST_TERMS+then-words-count}
use Rattle.solverspeed.proofs.take_row.Goals as goal

pub returns-then-count-gt-MOST_TERMS-clause-taken :
    goal.returns-then-count-gt-MOST_TERMS-clause-taken
returns-then-count-gt-MOST_TERMS-clause-taken c r rest e frame taken =
    let is : c.args.words.now ≡ c.in_ok-count.count.now ∷ c.in_ok-sum.sum.now ∷ c.in_ok-sum.words.now = c.in_ok-count.ensures.cases.0 ∙ ap (λ ws. c.in_ok-count.count.now ∷ ws) c.in_ok-sum.ensures.cases.0 in
    elim c.then-count-gt-MOST_TERMS.branch [
      | then-count-gt-MOST_TERMS-via-then-count-gt-MOST_TERMS w ↦ too_many c.args.words.now c.in_ok-sum.words.now c.in_ok-count.count.now c.in_ok-sum.sum.now is (omega (arith, w.if-count-gt-MOST_TERMS, c.from-count.ensures)) r rest e frame
      | then-count-gt-MOST_TERMS-via-else-count-gt-MOST_TERMS+then-words-count w ↦ too_short c.args.words.now c.in_ok-sum.words.now c.in_ok-count.count.now c.in_ok-sum.sum.now is (omega (arith, w.if-words-count, c.from-count.ensures)) r rest e
    ]

pub returns-in_err-frame-clause-taken : goal.returns-in_err-frame-clause-taken
returns-in_err-frame-clause-taken c =
    let counted : c.from-count.result ≤ 16 = c.if-count-gt-MOST_TERMS.false in
    let b = begun c.read_terms-terms.result c.in_ok-count.ensures.cases.0 c.in_ok-sum.ensures.cases.0 c.from-count.ensures counted c.split_at.ensures.front c.split_at.ensures.front_len c.read_terms-terms.ensures in
    rw (c.from_residual-in_err-frame.ensures) (no_frame b (system_of c.args.table.now) c.check.result (sym c.ok.ensures.value ∙ c.in_err-frame.was) c.check.ensures.decides)

pub returns-in_err-ok-clause-taken : goal.returns-in_err-ok-clause-taken
returns-in_err-ok-clause-taken c =
    let counted : c.from-count.result ≤ 16 = c.if-count-gt-MOST_TERMS.false in
    let b = begun c.read_terms-terms.result c.in_ok-count.ensures.cases.0 c.in_ok-sum.ensures.cases.0 c.from-count.ensures counted c.split_at.ensures.front c.split_at.ensures.front_len c.read_terms-terms.ensures in
    let of = of_value c.check.result c.in_ok-frame.frame (FrameOf c.in_ok-sum.sum.now (take c.from-count.result c.read_terms-terms.result)) (sym c.ok.ensures.value ∙ c.in_ok-frame.was) c.check.ensures.frame in
    rw (c.from_residual-in_err-ok.ensures) (no_room b (system_of c.args.table.now) c.in_ok-frame.frame of c.take.result c.take.ensures.answer (sym c.ok-2.ensures.value ∙ c.in_err-ok.was))
