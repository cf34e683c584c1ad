use Rattle.std.proofs.Common.{◌∙◌}
use Rattle.std.proofs.lemmas.Result.{err_from_is_err_and}
use Rattle.framelog.proofs.Inputs.{keeps_part, keeps_line}
use Rattle.framelog.proofs.logs.Log.end_line.Goals as goal

pub returns-in_err-answer : goal.returns-in_err-answer
returns-in_err-answer g c =
    let p = err_from_is_err_and c.from_residual.result c.from_residual.ensures.1 in
    let none = c.in_err-answer.ensures in
    rw p.1 (keeps_part g.A.Answerer.machine _ _ _ c.args.part.now c.requires c.extend.ensures none.1, none.0, none.2)

pub returns : goal.returns
returns g c =
    keeps_line g.A.Answerer.machine g.met.A.Answerer.fronts _ _ _ _ c.args.part.now c.text.result.now c.requires c.clear.ensures (c.text.ensures.value ∙ c.extend.ensures) c.in_ok-answer.ensures
