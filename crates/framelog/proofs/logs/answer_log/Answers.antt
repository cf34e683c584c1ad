use Rattle.std.proofs.Common.{◌∙◌}
use Rattle.std.proofs.lemmas.Result.{err_from_is_err_and}
use Rattle.framelog.proofs.Inputs.{log_answered, last_unanswered, all_answered}
use Rattle.framelog.proofs.logs.answer_log.Goals as goal

pub returns-in_err-feed : goal.returns-in_err-feed
returns-in_err-feed g c =
    let p = err_from_is_err_and c.from_residual.result c.from_residual.ensures.1 in
    let some = c.in_err-feed.ensures in
    rw p.1 (some.0, some.1, log_answered g.A.Answerer.machine _ _ _ _ _ c.new-log.ensures _ some.2, some.3, some.4)

pub returns-in_err-finish : goal.returns-in_err-finish
returns-in_err-finish g c =
    let p = err_from_is_err_and c.from_residual-in_err-finish.result c.from_residual-in_err-finish.ensures.1 in
    let none = c.in_err-finish.ensures in
    rw p.1 (last_unanswered g.A.Answerer.machine _ _ _ _ _ c.new-log.ensures _ c.args.bytes.now c.in_ok-feed.ensures none.1 none.2)

pub returns : goal.returns
returns g c =
    let all = all_answered g.A.Answerer.machine _ _ _ _ _ c.new-log.ensures _ _ c.args.bytes.now c.in_ok-feed.ensures c.in_ok-finish.ensures in
    (all.0, c.into_answerer.ensures ∙ all.1)
