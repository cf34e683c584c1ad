use Rattle.std.proofs.Common.{rules}
use Rattle.field.specs.LawsForAll.{lawful}
use Rattle.receiver.proofs.Keeping.{made_begins}
use Rattle.receiver.proofs.blocks.Block.new.Goals as goal

pub returns-clause-law : goal.returns-clause-law
returns-clause-law g c = made_begins (lawful g.F.Field.ops g.met.F.Field.laws) _ c.args.name (g.L.Rows.system c.args.ledger) (g.L.Ledger.most c.args.ledger) (g.L.Ledger.limits c.args.ledger) (search rules)
