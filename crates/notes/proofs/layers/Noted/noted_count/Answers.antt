use Rattle.std.proofs.Common.{arith}
use Rattle.field.specs.LawsForAll.{lawful}
use Rattle.notes.specs.Layers.{codes_in, below, system_below}
use Rattle.notes.proofs.Counts.{count_at_most}
use Rattle.notes.proofs.Completion.{notes_complete}
use Rattle.notes.proofs.layers.Noted.noted_count.Goals as goal

pub returns-clause-at_most : goal.returns-clause-at_most
returns-clause-at_most g c =
    let noted = c.args.self.now in
    let most = count_at_most (system_below noted).width (codes_in noted) noted.fits.minute in
    omega (arith, most, c.count.ensures)

pub returns-clause-whole : goal.returns-clause-whole
returns-clause-whole g c =
    let noted = c.args.self.now in
    let F = lawful g.F.Field.ops g.met.F.Field.laws in
    notes_complete F (codes_in noted) (system_below noted) noted.fits (g.met.R.Rows.formed (below noted)).few_minutes
