use Rattle.receiver.specs.Blocks.{contents}
use Rattle.rows.specs.Ledgers.{row_of}
use Rattle.disputes.specs.Clients.{WasUsed, ShowsWith}
use Rattle.disputes.proofs.Frames.{used, shows, if_ok}
use Rattle.disputes.proofs.clients.take_and_settle.Goals as goal

pub returns-clause-used : goal.returns-clause-used
returns-clause-used g c was = used g.F.Field.ops _ (contents c.take.new.self) (contents c.settle.new.self) c.settle.ensures.law (used g.F.Field.ops _ (contents c.args.block.now) (contents c.take.new.self) c.in_ok-take.ensures.law was)

pub returns-clause-shows : goal.returns-clause-shows
returns-clause-shows g c = if_ok (WasUsed g.F.Field.ops (contents c.args.block.now) → ShowsWith g.F.Field.ops (contents c.settle.new.self) (row_of c.args.frame.now)) c.settle.result (shows g.F.Field.ops (contents c.args.block.now) (contents c.take.new.self) (contents c.settle.new.self) (row_of c.args.frame.now) c.in_ok-take.field-0 c.in_ok-take.ensures.law _ _ c.settle.ensures.law)
