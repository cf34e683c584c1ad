-- From the laws of the bound. Assumes nothing.
use Rattle.std.proofs.Common.{refl}
use Rattle.field.specs.LawsForAll.{lawful}
use Rattle.field.proofs.FieldLemmas.{consequences}
use Rattle.field.proofs.fields.laws_hold.Goals as goal

pub returns : goal.returns
returns g c =
    let F = lawful g.F.Field.ops g.met.F.Field.laws in
    record { lawful = (F, refl); consequences = consequences F }
