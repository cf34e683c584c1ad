-- Euclid's number is the one code that makes a product of 1. Assumes nothing.
use Rattle.std.proofs.Common.{◌*◌, ◌%◌, sym, ap, ◌∙◌}
use Rattle.field.proofs.FieldLemmas.{none_of_zero, reciprocal_is, times_left}
use Rattle.field.specs.Residues.{prime_field}
use Rattle.field.proofs.primes.PrimeField.inverse.Goals as goal

pub returns-in-0 : goal.returns-in-0
returns-in-0 c = sym (none_of_zero prime_field c.args.a c.in-0.is)

pub returns-in_default : goal.returns-in_default
returns-in_default c =
    let b = c.invert.result in
    let product = sym (times_left prime_field c.args.a b) ∙ ap (λ x. (x * b) % 65521) (sym c.from.ensures) ∙ c.invert.ensures.inverts in
    sym (reciprocal_is prime_field c.args.a b c.invert.ensures.code product)
