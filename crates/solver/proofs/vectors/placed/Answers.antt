use Rattle.std.proofs.Common.{slice_index, arith, subst, ◌∙◌, length-set}
use Rattle.solver.specs.Steps.Vectors.{Placed}
use Rattle.solver.proofs.Placing.{placed_none, placed_next}
use Rattle.solver.proofs.vectors.placed.Goals as goal

pub loop-k-init : goal.loop-k-init
loop-k-init g c = (c.zeros-vector.ensures.long, placed_none (slice_index c.args.places.now) (slice_index c.args.values.now) c.zeros-vector.result g.row.N c.zeros-vector.ensures)

pub loop-k-preserved : goal.loop-k-preserved
loop-k-preserved g c =
    let k = c.loop-k.k in
    let Q = slice_index c.args.places.now in
    let there = c.requires.below k c.loop-k-test.true in
    rw (c.from.ensures) (
      length-set c.loop-k.vector (Q k) (slice_index c.args.values.now k) ∙ c.loop-k.invariant.0,
      placed_next Q (slice_index c.args.values.now) k c.loop-k.vector (omega (arith, c.loop-k.invariant.0, there)) c.loop-k.invariant.1,
    )

pub returns-clause-long : goal.returns-clause-long
returns-clause-long g c = c.loop-k.invariant.0

pub returns-clause-placed : goal.returns-clause-placed
returns-clause-placed g c =
    subst (λ k. Placed k (slice_index c.args.places.now) (slice_index c.args.values.now) c.loop-k.vector) (omega (arith, c.loop-k-test.false, c.loop-k.auto.k-end)) c.loop-k.invariant.1
