-- Products of vectors in slices. Assumes nothing.
use Rattle.std.proofs.Common.{◌≡◌, ℕ, suc, ◌+◌, ◌%◌, ◌<◌, ◌≤◌, List, length, min, slice_index, ap, sym, refl, ◌∙◌, arith}
use Rattle.field.specs.Laws.{Lawful}
use Rattle.field.specs.Sums.{Σ}
use Rattle.field.proofs.FieldLemmas.{ring}
use Rattle.algebra.specs.Vectors.{dot}
use Rattle.algebra.proofs.Sums.{Σ-congr, Σ-suc, Σ-mod}

-- a product over all places of a slice whose values are f's
pub dot-of_row : (F : Lawful) (s : ℕ) (f y : ℕ → ℕ) (row : List ℕ) (n r : ℕ) → length row ≡ s → s ≤ n → ((l : ℕ) → l < s → slice_index row l ≡ f l) →
    r ≡ dot F.ops (min (length row) n) (slice_index row) y → r ≡ dot F.ops s f y
dot-of_row F s f y row n r long most each e =
    e
    ∙ ap (λ n. dot F.ops n (slice_index row) y) (omega arith)
    ∙ Σ-congr F s (λ k. F.ops.times (slice_index row k) (y k)) (λ k. F.ops.times (f k) (y k)) (λ k h. ap (λ x. F.ops.times x (y k)) (each k h))

-- a product over one place more
pub dot_next : (F : Lawful) (x y : ℕ → ℕ) (r a b t : ℕ) → t ≡ dot F.ops r x y → a ≡ x r → b ≡ y r → F.ops.plus t (F.ops.times a b) ≡ dot F.ops (r + 1) x y
dot_next F x y r a b t e ea eb =
    let more : suc r ≡ r + 1 = omega arith in
    let f = λ (k : ℕ). F.ops.times (x k) (y k) in
    rw (e, ea, eb) (sym (Σ-suc F r f) ∙ ap (λ n. Σ F.ops n f) more)

times-zero : (F : Lawful) (a b : ℕ) → F.ops.plus a (F.ops.times 0 b) ≡ a % F.ops.q
times-zero F a b = (simp ring)

-- a place where the first vector is 0 adds nothing
pub dot_skip : (F : Lawful) (x y : ℕ → ℕ) (r : ℕ) → x r ≡ 0 → dot F.ops (r + 1) x y ≡ dot F.ops r x y
dot_skip F x y r e =
    let f = λ (k : ℕ). F.ops.times (x k) (y k) in
    sym (dot_next F x y r 0 (y r) (dot F.ops r x y) refl (sym e) refl) ∙ times-zero F (dot F.ops r x y) (y r) ∙ Σ-mod F r f
