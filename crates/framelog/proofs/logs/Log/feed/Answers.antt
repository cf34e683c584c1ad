use Rattle.std.proofs.Common.{[], ◌∷◌, ◌++◌, length, refl, sym, subst, append_assoc, append-nil, ◌∙◌, ap}
use Rattle.std.proofs.lemmas.Result.{err_from_is_err_and}
use Rattle.framelog.specs.Lines.{Keeps}
use Rattle.framelog.proofs.Inputs.{keeps_none, keeps_more, keeps_part}
use Rattle.framelog.proofs.Chunks.{part_more, part_taken}
use Rattle.framelog.proofs.logs.Log.feed.Goals as goal

pub loop-part-init : goal.loop-part-init
loop-part-init g c =
    record { taken = []; cut = cc; kept = keeps_none g.A.Answerer.machine _ _ }

pub loop-part-preserved-in-Continue-1 : goal.loop-part-preserved-in-Continue-1
loop-part-preserved-in-Continue-1 g c =
    let inv = c.loop-part.invariant in
    let last = c.in-Ended.last.now in
    let cut = rw c.in-Ended.is at c.in-Some.ensures.steps in
    record {
      taken = inv.taken ++ (last ++ 10 ∷ []);
      cut = part_more c.args.chunk.now inv.taken _ (last ++ 10 ∷ []) _ inv.cut (cut.1 ∙ sym (append_assoc last (10 ∷ []) _));
      kept = keeps_more g.A.Answerer.machine _ _ _ _ _ _ inv.taken _ inv.kept c.in_ok-end_line-in-Ended.ensures;
    }

pub returns-in_err-end_line-in-Ended : goal.returns-in_err-end_line-in-Ended
returns-in_err-end_line-in-Ended g c =
    let inv = c.loop-part.invariant in
    let p = err_from_is_err_and c.from_residual.result c.from_residual.ensures.1 in
    let last = c.in-Ended.last.now in
    let cut = rw c.in-Ended.is at c.in-Some.ensures.steps in
    let none = c.in_err-end_line-in-Ended.ensures in
    let front = part_taken c.args.chunk.now inv.taken _ last _ inv.cut cut.1 in
    let kept = keeps_more g.A.Answerer.machine _ _ _ _ _ _ inv.taken last inv.kept none.0 in
    rw p.1 (length (inv.taken ++ last), _, subst (Keeps g.A.Answerer.machine _ _ _ _) (sym front) kept, none.1, none.2)

pub loop-part-preserved : goal.loop-part-preserved
loop-part-preserved g c =
    let inv = c.loop-part.invariant in
    let part = c.in-Open.part.now in
    let cut = rw c.in-Open.is at c.in-Some.ensures.steps in
    record {
      taken = inv.taken ++ part;
      cut = part_more c.args.chunk.now inv.taken _ part _ inv.cut (cut.1 ∙ sym (append-nil part) ∙ ap (λ l. part ++ l) (sym cut.2));
      kept = keeps_more g.A.Answerer.machine _ _ _ _ _ _ inv.taken part inv.kept (keeps_part g.A.Answerer.machine _ _ _ _ cut.0 c.extend.ensures refl);
    }
