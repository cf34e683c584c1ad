use Rattle.std.proofs.Common.{ap, false}
use Rattle.notes.specs.Layers.{codes_in}
use Rattle.receiver.specs.declared.stages.State.TheVariants.{Settled, Disputed}
use Rattle.receiver.proofs.Settling.{put_list, blame_list}
use Rattle.receiver.proofs.blocks.Block.found.Goals as goal

pub returns-in-Solved : goal.returns-in-Solved
returns-in-Solved g c = rw (c.in-Solved.is) (ap Settled (put_list (codes_in c.args.self.now.noted) c.args.findings.now c.put_in.new.x c.put_in.ensures.codes))

pub returns-in-Contradiction : goal.returns-in-Contradiction
returns-in-Contradiction g c = rw (c.in-Contradiction.is) (ap (λ u. Disputed (record { blame = u; slip_out = false })) (blame_list c.args.findings.now))
