-- Dot products and products of matrices and vectors. Assumes nothing.
use Rattle.std.proofs.Common.{◌≡◌, ℕ, suc, ◌%◌, ◌<◌, sym, ap, ◌∙◌}
use Rattle.field.specs.Laws.{Lawful}
use Rattle.field.specs.Sums.{Σ}
use Rattle.field.proofs.FieldLemmas.{ring, times_left, times_zero_read, zero-mod-q, plus-mod}
use Rattle.algebra.specs.Places.{Below}
use Rattle.algebra.specs.Vectors.{δ, dot, place, unit_minus, mul_vec, vec_mul, mat_mul, IsIdentity}
use Rattle.algebra.specs.Theorems.{ProductLaws}
use Rattle.algebra.proofs.Deltas.{δ-comm}
use Rattle.algebra.proofs.Sums.{Σ-suc, Σ-congr, Σ-plus, Σ-times, times-Σ, Σ-comm, Σ-δ, Σ-of_zero, Σ-place}

module _ (F : Lawful) where
  open F.ops use {plus as ◌⊕◌, times as ◌⊗◌, negative, q}

  infixl 60 ◌⊕◌
  infixl 70 ◌⊗◌
  pub dot_comm : (n : ℕ) (x y : ℕ → ℕ) → dot F.ops n x y ≡ dot F.ops n y x
  dot_comm n x y = Σ-congr F n (λ k. x k ⊗ y k) (λ k. y k ⊗ x k) (λ k _. F.times_comm (x k) (y k))

  -- places count by their remainders
  pub dot-congr_mod : (n : ℕ) (x y z : ℕ → ℕ) → ((k : ℕ) → k < n → x k % q ≡ y k % q) → dot F.ops n x z ≡ dot F.ops n y z
  dot-congr_mod n x y z same =
      Σ-congr F n (λ k. x k ⊗ z k) (λ k. y k ⊗ z k)
      (λ k h. sym (times_left F (x k) (z k)) ∙ ap (λ a. a ⊗ z k) (same k h) ∙ times_left F (y k) (z k))

  pub vec_mul-congr : (s : ℕ) (c : ℕ → ℕ) (R Q : ℕ → ℕ → ℕ) → ((k : ℕ) → k < s → (j : ℕ) → R k j ≡ Q k j) → (j : ℕ) → vec_mul F.ops s c R j ≡ vec_mul F.ops s c Q j
  vec_mul-congr s c R Q same j = Σ-congr F s (λ k. c k ⊗ R k j) (λ k. c k ⊗ Q k j) (λ k h. ap (λ z. c k ⊗ z) (same k h j))

  -- f + c · g in the place of a vector
  pub dot-linear : (n c : ℕ) (h f g x : ℕ → ℕ) → ((k : ℕ) → k < n → h k % q ≡ f k ⊕ c ⊗ g k) → dot F.ops n h x ≡ dot F.ops n f x ⊕ c ⊗ dot F.ops n g x
  dot-linear n c h f g x is =
      Σ-congr F n (λ k. h k ⊗ x k) (λ k. f k ⊗ x k ⊕ c ⊗ (g k ⊗ x k)) (λ k below. sym (times_left F (h k) (x k)) ∙ ap (λ a. a ⊗ x k) (is k below) ∙ (simp ring))
      ∙ Σ-plus F n (λ k. f k ⊗ x k) (λ k. c ⊗ (g k ⊗ x k))
      ∙ ap (λ a. dot F.ops n f x ⊕ a) (sym (times-Σ F n c (λ k. g k ⊗ x k)))

  pub dot-scaled : (n c : ℕ) (h g x : ℕ → ℕ) → ((k : ℕ) → k < n → h k % q ≡ c ⊗ g k) → dot F.ops n h x ≡ c ⊗ dot F.ops n g x
  dot-scaled n c h g x is =
      Σ-congr F n (λ k. h k ⊗ x k) (λ k. c ⊗ (g k ⊗ x k)) (λ k below. sym (times_left F (h k) (x k)) ∙ ap (λ a. a ⊗ x k) (is k below) ∙ F.times_assoc c (g k) (x k))
      ∙ sym (times-Σ F n c (λ k. g k ⊗ x k))

  -- x + c · y in the place of a vector, on either side
  pub vec_mul-linear : (n : ℕ) (A : ℕ → ℕ → ℕ) (u v : ℕ → ℕ) (c j : ℕ) → vec_mul F.ops n (λ i. u i ⊕ c ⊗ v i) A j ≡ vec_mul F.ops n u A j ⊕ c ⊗ vec_mul F.ops n v A j
  vec_mul-linear n A u v c j = dot-linear n c (λ i. u i ⊕ c ⊗ v i) u v (λ i. A i j) (λ i _. plus-mod F (u i) (c ⊗ v i))

  pub mul_vec-linear : (m : ℕ) (A : ℕ → ℕ → ℕ) (x y : ℕ → ℕ) (c i : ℕ) → mul_vec F.ops m A (λ j. x j ⊕ c ⊗ y j) i ≡ mul_vec F.ops m A x i ⊕ c ⊗ mul_vec F.ops m A y i
  mul_vec-linear m A x y c i =
      dot_comm m (A i) (λ j. x j ⊕ c ⊗ y j)
      ∙ vec_mul-linear m (λ j _. A i j) x y c 0
      ∙ ap (λ z. z ⊕ c ⊗ dot F.ops m y (A i)) (dot_comm m x (A i))
      ∙ ap (λ z. dot F.ops m (A i) x ⊕ c ⊗ z) (dot_comm m y (A i))

  pub mul_vec-minus : (m : ℕ) (A : ℕ → ℕ → ℕ) (x y : ℕ → ℕ) (i : ℕ) → mul_vec F.ops m A (λ j. x j ⊕ negative (y j)) i ≡ mul_vec F.ops m A x i ⊕ negative (mul_vec F.ops m A y i)
  mul_vec-minus m A x y i =
      Σ-congr F m (λ j. A i j ⊗ (x j ⊕ negative (y j))) (λ j. A i j ⊗ (x j ⊕ negative 1 ⊗ y j)) (λ j _. simp ring)
      ∙ mul_vec-linear m A x y (negative 1) i
      ∙ (simp ring)

  -- u · (Ax) = (uA) · x
  pub dot-mul_vec : (n m : ℕ) (u : ℕ → ℕ) (A : ℕ → ℕ → ℕ) (x : ℕ → ℕ) → dot F.ops n u (mul_vec F.ops m A x) ≡ dot F.ops m (vec_mul F.ops n u A) x
  dot-mul_vec n m u A x =
      Σ-congr F n (λ i. u i ⊗ mul_vec F.ops m A x i) (λ i. Σ F.ops m (λ j. u i ⊗ (A i j ⊗ x j))) (λ i _. times-Σ F m (u i) (λ j. A i j ⊗ x j))
      ∙ Σ-comm F n m (λ i j. u i ⊗ (A i j ⊗ x j))
      ∙ Σ-congr F m (λ j. Σ F.ops n (λ i. u i ⊗ (A i j ⊗ x j))) (λ j. vec_mul F.ops n u A j ⊗ x j)
      (λ j _.
      Σ-congr F n (λ i. u i ⊗ (A i j ⊗ x j)) (λ i. u i ⊗ A i j ⊗ x j) (λ i _. sym (F.times_assoc (u i) (A i j) (x j)))
      ∙ sym (Σ-times F n (x j) (λ i. u i ⊗ A i j)))

  -- the identity matrix
  pub vec_mul-identity : (s l : ℕ) (v : ℕ → ℕ) (E : ℕ → ℕ → ℕ) → IsIdentity s E → l < s → vec_mul F.ops s v E l ≡ v l % q
  vec_mul-identity s l v E is h =
      Σ-congr F s (λ k. v k ⊗ E k l) (λ k. v k ⊗ δ l k) (λ k below. ap (λ a. v k ⊗ a) (is k l below h ∙ δ-comm k l)) ∙ Σ-δ F s l v h

  pub mul_vec-identity : (s k : ℕ) (a : ℕ → ℕ) (E : ℕ → ℕ → ℕ) → IsIdentity s E → k < s → mul_vec F.ops s E a k ≡ a k % q
  mul_vec-identity s k a E is h =
      Σ-congr F s (λ l. E k l ⊗ a l) (λ l. a l ⊗ δ k l) (λ l below. ap (λ x. x ⊗ a l) (is k l h below) ∙ F.times_comm (δ k l) (a l)) ∙ Σ-δ F s k a h

  -- what a matrix does, its inverse on that side undoes
  pub vec_mul-vec_mul_inverse : (s l : ℕ) (v : ℕ → ℕ) (B M : ℕ → ℕ → ℕ) → IsIdentity s (mat_mul F.ops s B M) → l < s → vec_mul F.ops s (vec_mul F.ops s v B) M l ≡ v l % q
  vec_mul-vec_mul_inverse s l v B M is h = sym (dot-mul_vec s s v B (λ k. M k l)) ∙ vec_mul-identity s l v (mat_mul F.ops s B M) is h

  pub mul_vec-mul_vec_inverse : (s k : ℕ) (a : ℕ → ℕ) (M B : ℕ → ℕ → ℕ) → IsIdentity s (mat_mul F.ops s M B) → k < s → mul_vec F.ops s M (mul_vec F.ops s B a) k ≡ a k % q
  mul_vec-mul_vec_inverse s k a M B is h = dot-mul_vec s s (M k) B a ∙ mul_vec-identity s k a (mat_mul F.ops s M B) is h

  -- one place more
  pub dot-suc : (s : ℕ) (x y f g : ℕ → ℕ) (a b : ℕ) → ((k : ℕ) → k < s → x k ≡ f k) → x s ≡ a → ((k : ℕ) → k < s → y k ≡ g k) → y s ≡ b → dot F.ops (suc s) x y ≡ dot F.ops s f g ⊕ a ⊗ b
  dot-suc s x y f g a b xf xa yg yb =
      Σ-suc F s (λ k. x k ⊗ y k)
      ∙ ap (λ z. dot F.ops s x y ⊕ z) (ap (λ z. z ⊗ y s) xa ∙ ap (λ z. a ⊗ z) yb)
      ∙ ap (λ z. z ⊕ a ⊗ b) (Σ-congr F s (λ k. x k ⊗ y k) (λ k. f k ⊗ g k) (λ k h. ap (λ z. z ⊗ y k) (xf k h) ∙ ap (λ z. f k ⊗ z) (yg k h)))

  pub dot-of_zero : (n : ℕ) (x y : ℕ → ℕ) → ((k : ℕ) → k < n → y k % q ≡ 0) → dot F.ops n x y ≡ 0
  dot-of_zero n x y none = Σ-of_zero F n (λ k. x k ⊗ y k) (λ k h. ap (λ z. z % q) (times_zero_read F (x k) (y k) (none k h)) ∙ zero-mod-q F)

  -- 1 at i less what is placed at P
  pub dot-unit_minus : (n i s : ℕ) (P y f : ℕ → ℕ) → i < n → Below s P n → dot F.ops n (unit_minus F.ops i s P y) f ≡ f i ⊕ negative (dot F.ops s y (λ k. f (P k)))
  dot-unit_minus n i s P y f h below =
      dot-linear n (negative 1) (unit_minus F.ops i s P y) (δ i) (place F.ops s P y) f (λ r _. simp ring)
      ∙ ap (λ x. x ⊕ negative 1 ⊗ dot F.ops n (place F.ops s P y) f) (dot_comm n (δ i) f ∙ Σ-δ F n i f h)
      ∙ ap (λ x. f i % q ⊕ negative 1 ⊗ x) (Σ-place F n s P y f below)
      ∙ (simp ring)

  pub product_laws : ProductLaws F.ops
  product_laws = record { comm = dot_comm; mul_vec_linear = mul_vec-linear; vec_mul_linear = vec_mul-linear; assoc = dot-mul_vec }
