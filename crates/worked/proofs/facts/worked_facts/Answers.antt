-- Computed. Assumes nothing.
use Rattle.std.proofs.Common.{refl}
use Rattle.field.specs.Operations.{first_from, reciprocal, inverse}
use Rattle.field.specs.Octets.{product, remainder, octet_times, power}
use Rattle.field.specs.Sums.{Σ}
use Rattle.algebra.specs.Vectors.{δ}
use Rattle.algebra.specs.Profiles.{with_row, eliminate}
use Rattle.rows.specs.Values.{weighted}
use Rattle.solver.specs.Runs.{run}
use Rattle.worked.proofs.facts.worked_facts.Goals as goal

pub returns : goal.returns
unfolding first_from reciprocal inverse product remainder octet_times power Σ weighted with_row eliminate δ run
returns c =
    record {
      prime_product = refl;
      prime_inverse = refl;
      octet_product = refl;
      octet_inverse = refl;
      octet_power = refl;
      third_row_left = refl;
      first_column = refl;
      last_column = refl;
      third_row_noted = refl;
      profile = refl;
      contradiction = refl;
      blame = refl;
      most_terms = refl;
      minutes = refl;
      most_minutes = refl;
      most_rows = refl;
      work_words = refl;
    }
