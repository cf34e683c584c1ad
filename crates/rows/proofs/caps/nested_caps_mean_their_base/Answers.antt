use Rattle.rows.proofs.NestedCaps.{nested_law}
use Rattle.rows.proofs.caps.nested_caps_mean_their_base.Goals as goal

pub returns : goal.returns
returns g c = nested_law g.L.Rows.system g.L.Ledger.most
