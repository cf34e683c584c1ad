use Rattle.std.proofs.Common.{rules, Ok}
use Rattle.field.specs.LawsForAll.{lawful}
use Rattle.receiver.specs.Blocks.{contents}
use Rattle.notes.specs.Layers.{below}
use Rattle.receiver.proofs.Ordered.{note_ordered}
use Rattle.receiver.proofs.Keeping.{note_keeps}
use Rattle.receiver.proofs.blocks.Block.note.Goals as goal

pub returns-in_err-note-clause-order : goal.returns-in_err-note-clause-order
returns-in_err-note-clause-order g c = note_ordered g.F.Field.ops (contents c.args.self.now) c.args.minute c.args.code _ (search rules)

pub returns-in_err-undisputed-clause-law : goal.returns-in_err-undisputed-clause-law
returns-in_err-undisputed-clause-law g c = note_keeps (lawful g.F.Field.ops g.met.F.Field.laws) (contents c.args.self.now) c.args.self.now.stands _ c.args.minute c.args.code c.from_residual.result c.args.self.now.noted.fits (g.met.L.Rows.formed (below c.args.self.now.noted)) (search rules) (search rules)

pub returns-in_err-note-clause-law : goal.returns-in_err-note-clause-law
returns-in_err-note-clause-law g c = note_keeps (lawful g.F.Field.ops g.met.F.Field.laws) (contents c.args.self.now) c.args.self.now.stands _ c.args.minute c.args.code c.from_residual-in_err-note.result c.args.self.now.noted.fits (g.met.L.Rows.formed (below c.args.self.now.noted)) (search rules) (search rules)

pub returns-clause-law : goal.returns-clause-law
returns-clause-law g c = note_keeps (lawful g.F.Field.ops g.met.F.Field.laws) (contents c.args.self.now) c.args.self.now.stands _ c.args.minute c.args.code (Ok tt) c.args.self.now.noted.fits (g.met.L.Rows.formed (below c.args.self.now.noted)) (search rules) (search rules)
