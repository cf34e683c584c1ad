-- The inverse of a matrix with one row and one column more. Assumes nothing.
use Rattle.std.proofs.Common.{◌≡◌, ℕ, suc, ◌%◌, ◌<◌, ◌≢◌, sym, refl, ap, ◌∙◌, arith}
use Rattle.field.specs.Operations.{inverse}
use Rattle.field.specs.Laws.{Lawful}
use Rattle.field.proofs.FieldLemmas.{ring, plus-mod}
use Rattle.algebra.specs.Vectors.{δ, dot, mul_vec, vec_mul, mat_mul, submatrix, extend, bordered, IsIdentity, Inverse}
use Rattle.algebra.specs.Pivots.{Pivots, PivotsOf, Inverts, no_pivots, schur, grown, grow}
use Rattle.algebra.specs.Theorems.{GrowthLaws}
use Rattle.algebra.proofs.Deltas.{δ-self, δ-ne, δ-comm, extend-last, extend-below, below-suc}
use Rattle.algebra.proofs.Counting.{Below-extend}
use Rattle.algebra.proofs.Sums.{Σ-mod}
use Rattle.algebra.proofs.Products.{dot_comm, dot-linear, dot-scaled, dot-mul_vec, dot-suc, vec_mul-vec_mul_inverse, mul_vec-mul_vec_inverse}

-- X is the s × s matrix M with the column a, the row v and the corner d
pub record Bordered (s : ℕ) (X M : ℕ → ℕ → ℕ) (a v : ℕ → ℕ) (d : ℕ) : Type 0 where
  pub block : (k l : ℕ) → k < s → l < s → X k l ≡ M k l
  pub column : (k : ℕ) → k < s → X k s ≡ a k
  pub row : (l : ℕ) → l < s → X s l ≡ v l
  pub corner : X s s ≡ d

bordered-Bordered : (s : ℕ) (M : ℕ → ℕ → ℕ) (a v : ℕ → ℕ) (d : ℕ) → Bordered s (bordered s M a v d) M a v d
bordered-Bordered s M a v d =
    let above = extend-below s (λ k. extend s (M k) (a k)) (extend s v d) in
    let last = extend-last s (λ k. extend s (M k) (a k)) (extend s v d) in
    record {
      block = λ k l hk hl. ap (λ r. r l) (above k hk) ∙ extend-below s (M k) (a k) l hl;
      column = λ k hk. ap (λ r. r s) (above k hk) ∙ extend-last s (M k) (a k);
      row = λ l hl. ap (λ r. r l) last ∙ extend-below s v d l hl;
      corner = ap (λ r. r s) last ∙ extend-last s v d;
    }

submatrix-Bordered : (s : ℕ) (A : ℕ → ℕ → ℕ) (P Q : ℕ → ℕ) (i j : ℕ) → Bordered s (submatrix A (extend s P i) (extend s Q j)) (submatrix A P Q) (λ k. A (P k) j) (λ l. A i (Q l)) (A i j)
submatrix-Bordered s A P Q i j =
    record {
      block = λ k l hk hl. ap (λ p. A p (extend s Q j l)) (extend-below s P i k hk) ∙ ap (A (P k)) (extend-below s Q j l hl);
      column = λ k hk. ap (λ p. A p (extend s Q j s)) (extend-below s P i k hk) ∙ ap (A (P k)) (extend-last s Q j);
      row = λ l hl. ap (λ p. A p (extend s Q j l)) (extend-last s P i) ∙ ap (A i) (extend-below s Q j l hl);
      corner = ap (λ p. A p (extend s Q j s)) (extend-last s P i) ∙ ap (A i) (extend-last s Q j);
    }

Bordered-identity : (s : ℕ) (X E : ℕ → ℕ → ℕ) (a v : ℕ → ℕ) (d : ℕ) → Bordered s X E a v d → IsIdentity s E → ((k : ℕ) → k < s → a k ≡ 0) → ((l : ℕ) → l < s → v l ≡ 0) → d ≡ 1 → IsIdentity (suc s) X
Bordered-identity s X E a v d b is a0 v0 d1 k l hk hl =
    below-suc (λ k. X k l ≡ δ k l) s
    (λ k hk.
    below-suc (λ l. X k l ≡ δ k l) s
    (λ l hl. b.block k l hk hl ∙ is k l hk hl)
    (b.column k hk ∙ a0 k hk ∙ sym (δ-ne k s (omega arith))) l hl)
    (below-suc (λ l. X s l ≡ δ s l) s
    (λ l hl. b.row l hl ∙ v0 l hl ∙ sym (δ-ne s l (omega arith)))
    (b.corner ∙ d1 ∙ sym (δ-self s)) l hl) k hk

module _ (F : Lawful) (s : ℕ) where
  open F.ops use {plus as ◌⊕◌, times as ◌⊗◌, negative, q}

  infixl 60 ◌⊕◌
  infixl 70 ◌⊗◌
  mat_mul-Bordered : (X M Y N : ℕ → ℕ → ℕ) (a v b u : ℕ → ℕ) (d e : ℕ) → Bordered s X M a v d → Bordered s Y N b u e →
      Bordered s (mat_mul F.ops (suc s) X Y) (λ k l. mat_mul F.ops s M N k l ⊕ a k ⊗ u l) (λ k. mul_vec F.ops s M b k ⊕ a k ⊗ e) (λ l. vec_mul F.ops s v N l ⊕ d ⊗ u l) (dot F.ops s v b ⊕ d ⊗ e)
  mat_mul-Bordered X M Y N a v b u d e x y =
      record {
        block = λ k l hk hl. dot-suc F s (X k) (λ h. Y h l) (M k) (λ h. N h l) (a k) (u l) (λ h. x.block k h hk) (x.column k hk) (λ h below. y.block h l below hl) (y.row l hl);
        column = λ k hk. dot-suc F s (X k) (λ h. Y h s) (M k) b (a k) e (λ h. x.block k h hk) (x.column k hk) y.column y.corner;
        row = λ l hl. dot-suc F s (X s) (λ h. Y h l) v (λ h. N h l) d (u l) x.row x.corner (λ h below. y.block h l below hl) (y.row l hl);
        corner = dot-suc F s (X s) (λ h. Y h s) v b d e x.row x.corner y.column y.corner;
      }

  -- what is left beside the identity cancels
  cancels : (e c x : ℕ) → e ⊕ c ⊗ (x % q) ⊕ negative c ⊗ x ≡ e % q
  cancels e c x = simp ring

  opposite : (c x : ℕ) → negative c ⊗ (x % q) ⊕ c ⊗ x ≡ 0
  opposite c x = simp ring

  turned : (b x y w : ℕ) → b ⊕ x ⊗ w ⊗ y ≡ b ⊕ y ⊗ w ⊗ x
  turned b x y w = simp ring

  module _ (M B : ℕ → ℕ → ℕ) (a v y z : ℕ → ℕ) (d w t : ℕ) (unit : w ⊗ (d ⊕ negative t) ≡ 1) where
    spent : (x : ℕ) → x ⊕ x ⊗ w ⊗ t ⊕ negative (x ⊗ w) ⊗ d ≡ 0
    spent x =
        let gathered : x ⊕ x ⊗ w ⊗ t ⊕ negative (x ⊗ w) ⊗ d ≡ x ⊕ negative (x ⊗ (w ⊗ (d ⊕ negative t))) = simp ring in
        gathered ∙ ap (λ u. x ⊕ negative (x ⊗ u)) unit ∙ (simp ring)

    whole : negative w ⊗ t ⊕ w ⊗ d ≡ 1
    whole =
        let gathered : negative w ⊗ t ⊕ w ⊗ d ≡ w ⊗ (d ⊕ negative t) = simp ring in
        gathered ∙ unit

    linear : (k : ℕ) (x : ℕ → ℕ) → dot F.ops s (λ h. B k h ⊕ y k ⊗ w ⊗ z h) x ≡ dot F.ops s (B k) x ⊕ y k ⊗ w ⊗ dot F.ops s z x
    linear k x = dot-linear F s (y k ⊗ w) (λ h. B k h ⊕ y k ⊗ w ⊗ z h) (B k) z x (λ h below. plus-mod F (B k h) (y k ⊗ w ⊗ z h))

    scaled : (x : ℕ → ℕ) → dot F.ops s (λ h. negative (w ⊗ z h)) x ≡ negative w ⊗ dot F.ops s z x
    scaled x = dot-scaled F s (negative w) (λ h. negative (w ⊗ z h)) z x (λ h below. simp ring)

    left : (X Y : ℕ → ℕ → ℕ) → Bordered s X M a v d → Bordered s Y (λ k l. B k l ⊕ y k ⊗ w ⊗ z l) (λ k. negative (y k ⊗ w)) (λ l. negative (w ⊗ z l)) w →
        IsIdentity s (mat_mul F.ops s B M) → ((k : ℕ) → k < s → mul_vec F.ops s B a k ≡ y k) → ((l : ℕ) → l < s → vec_mul F.ops s z M l ≡ v l % q) → dot F.ops s z a ≡ t →
        IsIdentity (suc s) (mat_mul F.ops (suc s) Y X)
    left X Y old new is ya zv za =
        Bordered-identity s (mat_mul F.ops (suc s) Y X) _ _ _ _ (mat_mul-Bordered Y _ X M _ _ a v _ d new old)
        (λ k l hk hl.
        ap (λ x. x ⊕ negative (y k ⊗ w) ⊗ v l) (linear k (λ h. M h l) ∙ ap (λ x. dot F.ops s (B k) (λ h. M h l) ⊕ y k ⊗ w ⊗ x) (zv l hl))
        ∙ cancels (mat_mul F.ops s B M k l) (y k ⊗ w) (v l)
        ∙ Σ-mod F s (λ h. B k h ⊗ M h l)
        ∙ is k l hk hl)
        (λ k hk. ap (λ x. x ⊕ negative (y k ⊗ w) ⊗ d) (linear k a ∙ ap (λ x. dot F.ops s (B k) a ⊕ y k ⊗ w ⊗ x) za ∙ ap (λ x. x ⊕ y k ⊗ w ⊗ t) (ya k hk)) ∙ spent (y k))
        (λ l hl. ap (λ x. x ⊕ w ⊗ v l) (scaled (λ h. M h l) ∙ ap (λ x. negative w ⊗ x) (zv l hl)) ∙ opposite w (v l))
        (ap (λ x. x ⊕ w ⊗ d) (scaled a ∙ ap (λ x. negative w ⊗ x) za) ∙ whole)

  module _ (M B X : ℕ → ℕ → ℕ) (a v : ℕ → ℕ) (d : ℕ) (old : Bordered s X M a v d) (I : Inverse F.ops s M B) (some : d ⊕ negative (dot F.ops s (vec_mul F.ops s v B) a) ≢ 0) where
    y : ℕ → ℕ
    y = mul_vec F.ops s B a

    z : ℕ → ℕ
    z = vec_mul F.ops s v B

    t : ℕ
    t = dot F.ops s z a

    w : ℕ
    w = inverse F.ops (d ⊕ negative t)

    unit : w ⊗ (d ⊕ negative t) ≡ 1
    unfolding t z w
    unit = F.times_comm w (d ⊕ negative t) ∙ F.times-inverse (d ⊕ negative t) (λ e. some (sym (plus-mod F d (negative t)) ∙ e))

    new : Bordered s (grown F.ops s B y w z) (λ k l. B k l ⊕ y k ⊗ w ⊗ z l) (λ k. negative (y k ⊗ w)) (λ l. negative (w ⊗ z l)) w
    new = bordered-Bordered s _ _ _ _

    grown-left : IsIdentity (suc s) (mat_mul F.ops (suc s) (grown F.ops s B y w z) X)
    unfolding t z y
    grown-left = left M B a v y z d w t unit X (grown F.ops s B y w z) old new I.left (λ k hk. refl) (λ l hl. vec_mul-vec_mul_inverse F s l v B M I.left hl) refl

    -- the other side is the same for the transposed matrices
    grown-right : IsIdentity (suc s) (mat_mul F.ops (suc s) X (grown F.ops s B y w z))
    unfolding t z y
    grown-right k l hk hl =
        dot_comm F (suc s) (X k) (λ h. grown F.ops s B y w z h l)
        ∙ left (λ k l. M l k) (λ k l. B l k) v a z y d w t unit (λ k l. X l k) (λ k l. grown F.ops s B y w z l k)
        (record { block = λ k l hk hl. old.block l k hl hk; column = old.row; row = old.column; corner = old.corner })
        (record { block = λ k l hk hl. new.block l k hl hk ∙ turned (B l k) (y l) (z k) w; column = λ k hk. new.row k hk ∙ ap negative (F.times_comm w (z k)); row = λ l hl. new.column l hl ∙ ap negative (F.times_comm (y l) w); corner = new.corner })
        (λ k l hk hl. dot_comm F s (λ h. B h k) (M l) ∙ I.right l k hl hk ∙ δ-comm l k)
        (λ k hk. dot_comm F s (λ h. B h k) v)
        (λ l hl. dot_comm F s y (M l) ∙ mul_vec-mul_vec_inverse F s l a M B I.right hl)
        (dot_comm F s y v ∙ dot-mul_vec F s s v B a)
        l k hl hk
        ∙ δ-comm l k

  -- the inverse of a bordered matrix, by its Schur complement
  pub Inverse-grown : (M B X : ℕ → ℕ → ℕ) (a v : ℕ → ℕ) (d : ℕ) → Bordered s X M a v d → Inverse F.ops s M B → d ⊕ negative (dot F.ops s (vec_mul F.ops s v B) a) ≢ 0 →
      Inverse F.ops (suc s) X (grown F.ops s B (mul_vec F.ops s B a) (inverse F.ops (d ⊕ negative (dot F.ops s (vec_mul F.ops s v B) a))) (vec_mul F.ops s v B))
  unfolding y z t w
  Inverse-grown M B X a v d old I some = record { left = grown-left M B X a v d old I some; right = grown-right M B X a v d old I some }

pub grow-Inverts : (F : Lawful) (A : ℕ → ℕ → ℕ) (S : Pivots) (i j : ℕ) → Inverts F.ops A S → schur F.ops A S i j ≢ 0 → Inverts F.ops A (grow F.ops A S i j)
grow-Inverts F A S i j I some = Inverse-grown F S.count (submatrix A S.row S.column) S.inverse _ _ _ (A i j) (submatrix-Bordered S.count A S.row S.column i j) I some

module _ (F : Lawful) (n m : ℕ) (A : ℕ → ℕ → ℕ) where
  pub no_pivots-PivotsOf : PivotsOf F.ops n m A no_pivots
  no_pivots-PivotsOf =
      record {
        rows_below = λ k h. absurd (omega arith);
        columns_below = λ k h. absurd (omega arith);
        inverts = record { left = λ k l h _. absurd (omega arith); right = λ k l h _. absurd (omega arith) };
      }

  pub grow-PivotsOf : (S : Pivots) (i j : ℕ) → PivotsOf F.ops n m A S → i < n → j < m → schur F.ops A S i j ≢ 0 → PivotsOf F.ops n m A (grow F.ops A S i j)
  grow-PivotsOf S i j I hi hj some =
      record {
        rows_below = Below-extend S.count n S.row i I.rows_below hi;
        columns_below = Below-extend S.count m S.column j I.columns_below hj;
        inverts = grow-Inverts F A S i j I.inverts some;
      }

  pub growth_laws : GrowthLaws F.ops n m A
  growth_laws = record { start = no_pivots-PivotsOf; grow = grow-PivotsOf }
