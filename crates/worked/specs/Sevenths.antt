-- The integers modulo 7 are a field. Assumes nothing.
use Rattle.std.specs.Prelude.{◌≡◌, ℕ, ◌*◌, ◌%◌, ◌<◌, Some, refl}
use Rattle.std.proofs.Common.{sym, ap, ◌∙◌, lit<, lit≤}
use Rattle.field.specs.Operations.{reciprocal}
use Rattle.field.specs.Laws.{FieldLaws, Lawful}
use Rattle.field.specs.Modulo.{modulo}
use Rattle.field.specs.LawsForAll.{lawful}
use Rattle.field.proofs.FieldLemmas.{reciprocal_is, times_left}
use Rattle.field.specs.Residues.{modulo_laws, divides_not, undivided_by_test}

pub seven_laws : FieldLaws (modulo 7)
unfolding divides_not
seven_laws = modulo_laws 7 (lit< tt) (lit≤ tt) (undivided_by_test 7 1 refl (lit< tt))

abbrev pub seven_field : Lawful
seven_field = lawful (modulo 7) seven_laws

pub inverts : (a k b : ℕ) → a % 7 ≡ k → b < 7 → (k * b) % 7 ≡ 1 → reciprocal (modulo 7) a ≡ Some b
inverts a k b e h one = reciprocal_is seven_field a b h (sym (times_left seven_field a b) ∙ ap (λ x. (x * b) % 7) e ∙ one)
