-- The product of two powers of 2 is the power of the sum of the logarithms. Assumes nothing.
use Rattle.std.proofs.Common.{◌%◌, sym, ap, ◌∙◌, inl, inr, arith}
use Rattle.field.specs.Octets.{octet_times, power}
use Rattle.field.proofs.FieldLemmas.{zero_read_times, times_zero_read}
use Rattle.field.specs.OctetProducts.{times_reads}
use Rattle.field.specs.OctetPowers.{times_power}
use Rattle.field.specs.OctetLaws.{octet_field}
use Rattle.field.proofs.octets.OctetsField.times.Goals as goal

pub returns-then-a-eq0 : goal.returns-then-a-eq0
returns-then-a-eq0 c =
    sym
    (elim c.then-a-eq0.either [
      | inl z ↦ zero_read_times octet_field c.args.a c.args.b z
      | inr z ↦ times_zero_read octet_field c.args.a c.args.b z.1
    ])

pub returns : goal.returns
returns c =
    c.power_at.ensures
    ∙ sym (times_power c.log_at.result c.log_at-2.result)
    ∙ ap (λ x. octet_times x (power c.log_at-2.result)) (c.log_at.ensures.powers (omega arith))
    ∙ ap (λ x. octet_times (c.args.a % 256) x) (c.log_at-2.ensures.powers (omega arith))
    ∙ sym (times_reads c.args.a c.args.b)
