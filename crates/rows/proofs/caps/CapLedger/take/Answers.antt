use Rattle.std.proofs.Common.{length, rules}
use Rattle.frame.specs.Parts.{terms_of}
use Rattle.rows.specs.Caps.{cap_system, cap_limit}
use Rattle.rows.proofs.Beyond.{answer_in_order}
use Rattle.rows.proofs.caps.CapLedger.take.Goals as goal

pub returns-then-row_count-number-clause-order : goal.returns-then-row_count-number-clause-order
returns-then-row_count-number-clause-order g c =
    let S = cap_system g.L.Rows.system c.args.self.now in
    answer_in_order S.width (length S.rows) (cap_limit g.L.Ledger.most c.args.self.now) (terms_of c.args.frame.now) _ (search rules)

pub returns-clause-order : goal.returns-clause-order
returns-clause-order g c =
    let S = cap_system g.L.Rows.system c.args.self.now in
    answer_in_order S.width (length S.rows) (cap_limit g.L.Ledger.most c.args.self.now) (terms_of c.args.frame.now) _ (search rules)
