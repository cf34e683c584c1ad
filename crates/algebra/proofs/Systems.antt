-- Systems that nothing satisfies. Assumes nothing.
use Rattle.std.proofs.Common.{◌%◌, sym, ap, ◌∙◌}
use native.Mathlib.Nat.{mod-mod}
use Rattle.field.specs.Laws.{Lawful}
use Rattle.field.proofs.FieldLemmas.{zero-mod-q}
use Rattle.algebra.specs.Vectors.{mul_vec, vec_mul}
use Rattle.algebra.specs.Theorems.{NoSolution}
use Rattle.algebra.proofs.Products.{dot_comm, dot-congr_mod, dot-mul_vec, dot-of_zero}

-- a combination of the rows that is 0 where that of the sums is not
pub no_solution : (F : Lawful) → NoSolution F.ops
no_solution F n m A b u null some x xs =
    some
    (dot_comm F n u b
    ∙ sym (dot-congr_mod F n (mul_vec F.ops m A x) b u (λ i h. ap (λ z. z % F.ops.q) (xs i h) ∙ mod-mod (b i) F.ops.q))
    ∙ dot_comm F n (mul_vec F.ops m A x) u
    ∙ dot-mul_vec F n m u A x
    ∙ dot_comm F m (vec_mul F.ops n u A) x
    ∙ dot-of_zero F m x (vec_mul F.ops n u A) (λ j h. ap (λ z. z % F.ops.q) (null j h) ∙ zero-mod-q F))
