use Rattle.std.proofs.Common.{sym, ap, subst, ◌∙◌}
use Rattle.field.specs.LawsForAll.{lawful}
use Rattle.rows.specs.Values.{OthersSatisfied}
use Rattle.rows.proofs.Strikes.{strike_others}
use Rattle.notes.specs.Notes.{system_under}
use Rattle.notes.specs.Layers.{system_noted}
use Rattle.notes.proofs.Strikes.{struck_under}
use Rattle.notes.proofs.layers.Noted.strike.Goals as goal

pub returns-clause-shown : goal.returns-clause-shown
returns-clause-shown g c =
    let F = lawful g.F.Field.ops g.met.F.Field.laws in
    let noted = c.args.self.now in
    ap (system_under F.ops noted.notes.codes) c.strike.ensures.after ∙ struck_under F noted.notes.codes (g.L.Rows.system noted.below) c.args.row c.strike.result

pub returns-clause-others : goal.returns-clause-others
returns-clause-others g c =
    let S = system_noted c.args.self.now in
    subst (λ T. OthersSatisfied S T c.args.row) (sym (returns-clause-shown g c)) (strike_others S c.args.row c.strike.result)
