-- Each code with its inverse. Assumes nothing.
use Rattle.std.proofs.Common.{sym, refl, arith, lit<}
use Rattle.field.proofs.FieldLemmas.{none_of_zero}
use Rattle.worked.specs.Sevenths.{seven_field, inverts}
use Rattle.worked.proofs.sevens.SevenField.inverse.Goals as goal

pub returns-in-0 : goal.returns-in-0
returns-in-0 c = sym (none_of_zero seven_field c.args.a (omega arith))

pub returns-in-1 : goal.returns-in-1
returns-in-1 c = sym (inverts c.args.a 1 1 (omega arith) (lit< tt) refl)

pub returns-in-2 : goal.returns-in-2
returns-in-2 c = sym (inverts c.args.a 2 4 (omega arith) (lit< tt) refl)

pub returns-in-3 : goal.returns-in-3
returns-in-3 c = sym (inverts c.args.a 3 5 (omega arith) (lit< tt) refl)

pub returns-in-4 : goal.returns-in-4
returns-in-4 c = sym (inverts c.args.a 4 2 (omega arith) (lit< tt) refl)

pub returns-in-5 : goal.returns-in-5
returns-in-5 c = sym (inverts c.args.a 5 3 (omega arith) (lit< tt) refl)

pub returns-in_default : goal.returns-in_default
returns-in_default c = sym (inverts c.args.a 6 6 (omega arith) (lit< tt) refl)
