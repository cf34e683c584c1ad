use Rattle.std.proofs.Common.{◌↔◌, subst, arith}
use Rattle.field.specs.LawsForAll.{lawful}
use Rattle.rows.specs.Values.{choice, SatisfiesAll}
use Rattle.notes.specs.Layers.{system_noted}
use Rattle.notes.proofs.Satisfied.{all_satisfied, put_everywhere}
use Rattle.notes.proofs.layers.Noted.put_in.Goals as goal

pub returns-clause-satisfies : goal.returns-clause-satisfies
returns-clause-satisfies g c whole =
    let F = lawful g.F.Field.ops g.met.F.Field.laws in
    let noted = c.args.self.now in
    let S = g.R.Rows.system noted.below in
    let xs = c.args.x.now in
    subst (λ y. SatisfiesAll F.ops (system_noted noted) (choice xs) ↔ SatisfiesAll F.ops S y)
    (put_everywhere F.ops S.width noted.notes.codes noted.fits xs c.loop-minute.x c.loop-minute.minute (omega (arith, whole, c.loop-minute-test.false)) c.loop-minute.invariant)
    (all_satisfied F noted.notes.codes (choice xs) S)

pub returns-clause-law : goal.returns-clause-law
returns-clause-law g c y = all_satisfied (lawful g.F.Field.ops g.met.F.Field.laws) c.args.self.now.notes.codes y (g.R.Rows.system c.args.self.now.below)
