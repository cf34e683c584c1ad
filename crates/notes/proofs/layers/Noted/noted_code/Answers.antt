use Rattle.notes.specs.Layers.{codes_in, system_below}
use Rattle.notes.proofs.Completion.{read_zero}
use Rattle.notes.proofs.layers.Noted.noted_code.Goals as goal

pub returns-clause-column : goal.returns-clause-column
returns-clause-column g c =
    let noted = c.args.self.now in
    read_zero g.F.Field.ops (codes_in noted) (system_below noted) c.args.minute c.get.result c.get.ensures
