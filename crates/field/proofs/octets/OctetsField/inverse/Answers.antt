-- A logarithm's power times the one that completes 255 is 1. Assumes nothing.
use Rattle.std.proofs.Common.{◌-◌, ◌%◌, Bool, not, Some, sym, ap, ◌∙◌, inl, inr, arith}
use Rattle.std.proofs.lemmas.Bool.{cases_eq, eq-eqb, ne_eqb}
use Rattle.std.specs.Bool.{then_some}
use Rattle.field.specs.Octets.{octet_times, power}
use Rattle.field.proofs.FieldLemmas.{none_of_zero, reciprocal_is, times_left}
use Rattle.field.specs.OctetPowers.{power_code, times_completion}
use Rattle.field.specs.OctetLaws.{octet_field}
use Rattle.field.proofs.octets.OctetsField.inverse.Goals as goal

pub returns : goal.returns
returns c =
    let a = c.args.a in
    let log = c.log_at.ensures in
    let b = power (255 - c.log_at.result) in
    let given = λ (zero : Bool). then_some (not zero) c.power_at.result in
    elim (cases_eq (a % 256) 0) [
      | inl zero ↦ c.then_some.ensures ∙ ap given (eq-eqb _ _ zero) ∙ sym (none_of_zero octet_field a zero)
      | inr some ↦
          let product = sym (times_left octet_field a b) ∙ ap (λ x. octet_times x b) (sym (log.powers (omega arith))) ∙ times_completion c.log_at.result log.below in
          c.then_some.ensures ∙ ap given (ne_eqb _ _ some) ∙ ap Some c.power_at.ensures ∙ sym (reciprocal_is octet_field a b (power_code (255 - c.log_at.result)) product)
    ]
