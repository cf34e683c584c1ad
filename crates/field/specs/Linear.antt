-- Functions that keep exclusive or, and polynomial products and remainders as such. Assumes nothing.
use Rattle.std.specs.Prelude.{◌≡◌, ℕ, zero, suc, ◌+◌, ◌*◌, ◌/◌, ◌%◌, ◌^◌, ◌<◌, ◌⊎◌, bit_xor, refl}
use Rattle.std.proofs.Common.{sym, ap, ◌∙◌, inl, inr, arith, one-add, add-zero, zero-mul, one-mul, mod-lt, div-add-mod'}
use Rattle.std.specs.Int.Bits.{xor_assoc, xor_self, xor_zero_l, xor_zero_r, xor_shifted}
use Rattle.std.proofs.lemmas.Nat.{pow_pos, shr_below, xor_comm, xor_shr, xor_mod, xor_block}
use Rattle.field.specs.Octets.{coefficient, product, modulus, remainder, octet_times}

abbrev pub Linear : (ℕ → ℕ) → Type 0
Linear f = (a b : ℕ) → f (bit_xor a b) ≡ bit_xor (f a) (f b)

pub xor_exchange : (a b c d : ℕ) → bit_xor (bit_xor a b) (bit_xor c d) ≡ bit_xor (bit_xor a c) (bit_xor b d)
xor_exchange a b c d =
    xor_assoc a b (bit_xor c d)
    ∙ ap (λ x. bit_xor a x) (sym (xor_assoc b c d) ∙ ap (λ x. bit_xor x d) (xor_comm b c) ∙ xor_assoc c b d)
    ∙ sym (xor_assoc a c (bit_xor b d))

bit : (n : ℕ) → n < 2 → (n ≡ 0) ⊎ (n ≡ 1)
bit zero h = inl refl
bit (suc zero) h = inr refl
bit (suc (suc n)) h = absurd (omega arith)

-- both factors of a product keep exclusive or where one is a bit
bits_times : (s t y : ℕ) → s < 2 → t < 2 → bit_xor s t * y ≡ bit_xor (s * y) (t * y)
bits_times zero t y hs ht = ap (λ x. x * y) (xor_zero_l t) ∙ sym (ap (λ x. bit_xor x (t * y)) (zero-mul y) ∙ xor_zero_l (t * y))
bits_times (suc zero) zero y hs ht = sym (ap (λ x. bit_xor (1 * y) x) (zero-mul y) ∙ xor_zero_r (1 * y))
bits_times (suc zero) (suc zero) y hs ht = zero-mul y ∙ sym (xor_self (1 * y))
bits_times (suc zero) (suc (suc t)) y hs ht = absurd (omega arith)
bits_times (suc (suc s)) t y hs ht = absurd (omega arith)

times_bit : (t y z : ℕ) → t < 2 → t * bit_xor y z ≡ bit_xor (t * y) (t * z)
times_bit zero y z h = zero-mul (bit_xor y z) ∙ sym (ap (λ x. bit_xor x (0 * z)) (zero-mul y) ∙ xor_zero_l (0 * z) ∙ zero-mul z)
times_bit (suc zero) y z h = simp one-mul
times_bit (suc (suc t)) y z h = absurd (omega arith)

pub coefficient_bit : (a k : ℕ) → coefficient a k < 2
coefficient_bit a k = mod-lt (a / 2 ^ k) (omega arith)

coefficient_linear : (k : ℕ) → Linear (λ a. coefficient a k)
coefficient_linear k a b = ap (λ x. x % 2) (xor_shr a b k) ∙ xor_mod (a / 2 ^ k) (b / 2 ^ k) 1

shift_linear : (k : ℕ) → Linear (λ a. a * 2 ^ k)
shift_linear k a b = sym (simp add-zero at (xor_block k a b 0 0 (pow_pos k) (pow_pos k)))

pub product_right : (n a : ℕ) → Linear (λ b. product n a b)
unfolding product
product_right zero a b c = refl
product_right (suc n) a b c =
    ap (λ x. bit_xor (x * (a * 2 ^ n)) (product n a (bit_xor b c))) (coefficient_linear n b c)
    ∙ ap (λ x. bit_xor x (product n a (bit_xor b c))) (bits_times (coefficient b n) (coefficient c n) (a * 2 ^ n) (coefficient_bit b n) (coefficient_bit c n))
    ∙ ap (λ x. bit_xor (bit_xor (coefficient b n * (a * 2 ^ n)) (coefficient c n * (a * 2 ^ n))) x) (product_right n a b c)
    ∙ xor_exchange (coefficient b n * (a * 2 ^ n)) (coefficient c n * (a * 2 ^ n)) (product n a b) (product n a c)

product_left : (n b : ℕ) → Linear (λ a. product n a b)
unfolding product
product_left zero c a b = refl
product_left (suc n) c a b =
    ap (λ x. bit_xor (coefficient c n * x) (product n (bit_xor a b) c)) (shift_linear n a b)
    ∙ ap (λ x. bit_xor x (product n (bit_xor a b) c)) (times_bit (coefficient c n) (a * 2 ^ n) (b * 2 ^ n) (coefficient_bit c n))
    ∙ ap (λ x. bit_xor (bit_xor (coefficient c n * (a * 2 ^ n)) (coefficient c n * (b * 2 ^ n))) x) (product_left n c a b)
    ∙ xor_exchange (coefficient c n * (a * 2 ^ n)) (coefficient c n * (b * 2 ^ n)) (product n a c) (product n b c)

pub remainder_linear : (n : ℕ) → Linear (remainder n)
unfolding remainder
remainder_linear zero a b = refl
remainder_linear (suc n) a b =
    ap (λ x. remainder n (bit_xor (bit_xor a b) (x * (modulus * 2 ^ n)))) (coefficient_linear (n + 8) a b)
    ∙ ap (λ x. remainder n (bit_xor (bit_xor a b) x)) (bits_times (coefficient a (n + 8)) (coefficient b (n + 8)) (modulus * 2 ^ n) (coefficient_bit a (n + 8)) (coefficient_bit b (n + 8)))
    ∙ ap (remainder n) (xor_exchange a b (coefficient a (n + 8) * (modulus * 2 ^ n)) (coefficient b (n + 8) * (modulus * 2 ^ n)))
    ∙ remainder_linear n (bit_xor a (coefficient a (n + 8) * (modulus * 2 ^ n))) (bit_xor b (coefficient b (n + 8) * (modulus * 2 ^ n)))

pub times_right : (a : ℕ) → Linear (λ b. octet_times a b)
unfolding octet_times
times_right a b c = ap (λ x. remainder 7 (product 8 (a % 256) x)) (xor_mod b c 8) ∙ ap (remainder 7) (product_right 8 (a % 256) (b % 256) (c % 256)) ∙ remainder_linear 7 (product 8 (a % 256) (b % 256)) (product 8 (a % 256) (c % 256))

pub times_left : (b : ℕ) → Linear (λ a. octet_times a b)
unfolding octet_times
times_left c a b = ap (λ x. remainder 7 (product 8 x (c % 256))) (xor_mod a b 8) ∙ ap (remainder 7) (product_left 8 (c % 256) (a % 256) (b % 256)) ∙ remainder_linear 7 (product 8 (a % 256) (c % 256)) (product 8 (b % 256) (c % 256))

pub after : (f g : ℕ → ℕ) → Linear f → Linear g → Linear (λ a. f (g a))
after f g f-linear g-linear a b = ap f (g-linear a b) ∙ f-linear (g a) (g b)

pub octet_linear : Linear (λ a. a % 256)
octet_linear a b = xor_mod a b 8

module _ (f : ℕ → ℕ) (linear : Linear f) where
  pub linear_zero : f 0 ≡ 0
  linear_zero = linear 0 0 ∙ xor_self (f 0)

-- two such functions that agree at the powers of 2 below 2 ^ n agree at all numbers below it
module _ (f g : ℕ → ℕ) (f-linear : Linear f) (g-linear : Linear g) where
  pub by_basis : (n : ℕ) → ((i : ℕ) → i < n → f (2 ^ i) ≡ g (2 ^ i)) → (a : ℕ) → a < 2 ^ n → f a ≡ g a
  by_basis zero same a h =
      let z : a ≡ 0 = omega arith in
      ap f z ∙ linear_zero f f-linear ∙ sym (linear_zero g g-linear) ∙ sym (ap g z)
  by_basis (suc n) same a h =
      let below : a < 2 ^ (1 + n) = rw one-add h in
      let whole = xor_shifted (a / 2 ^ n) n (a % 2 ^ n) (mod-lt a (pow_pos n)) ∙ div-add-mod' a (2 ^ n) in
      let none : a / 2 ^ n ≡ 0 → a / 2 ^ n * 2 ^ n ≡ 0 = λ z. ap (λ x. x * 2 ^ n) z ∙ zero-mul (2 ^ n) in
      let once : a / 2 ^ n ≡ 1 → a / 2 ^ n * 2 ^ n ≡ 2 ^ n = λ o. ap (λ x. x * 2 ^ n) o ∙ one-mul (2 ^ n) in
      let high : f (a / 2 ^ n * 2 ^ n) ≡ g (a / 2 ^ n * 2 ^ n) =
      elim (bit (a / 2 ^ n) (shr_below a 1 n below)) [
        | inl z ↦ ap f (none z) ∙ linear_zero f f-linear ∙ sym (linear_zero g g-linear) ∙ sym (ap g (none z))
        | inr o ↦ ap f (once o) ∙ same n (omega arith) ∙ sym (ap g (once o))
      ] in
      let low = by_basis n (λ i l. same i (omega arith)) (a % 2 ^ n) (mod-lt a (pow_pos n)) in
      ap f (sym whole)
      ∙ f-linear (a / 2 ^ n * 2 ^ n) (a % 2 ^ n)
      ∙ ap (λ x. bit_xor x (f (a % 2 ^ n))) high
      ∙ ap (λ x. bit_xor (g (a / 2 ^ n * 2 ^ n)) x) low
      ∙ sym (g-linear (a / 2 ^ n * 2 ^ n) (a % 2 ^ n))
      ∙ ap g whole
