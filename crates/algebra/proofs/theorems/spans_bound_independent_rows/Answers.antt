-- From the laws of the bound. Assumes nothing.
use Rattle.field.specs.LawsForAll.{lawful}
use Rattle.algebra.proofs.Exchange.{span_laws}
use Rattle.algebra.proofs.theorems.spans_bound_independent_rows.Goals as goal

pub returns : goal.returns
returns g c = span_laws (lawful g.F.Field.ops g.met.F.Field.laws)
