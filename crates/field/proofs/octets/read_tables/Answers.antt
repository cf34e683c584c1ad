-- The tables pass the test of all their entries, which is computed here. Assumes nothing.
use Rattle.std.proofs.Common.{refl}
use Rattle.field.specs.Octets.{product, remainder, octet_times}
use Rattle.field.specs.OctetPowers.{table_rules, tables_pass, doubles, leads}
use Rattle.field.proofs.octets.read_tables.Goals as goal

pub returns : goal.returns
unfolding tables_pass doubles leads octet_times product remainder
returns c = table_rules _ _ refl refl refl
