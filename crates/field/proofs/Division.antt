-- What the reduction of a polynomial leaves is its remainder by the modulus. Assumes nothing.
use Rattle.std.proofs.Common.{◌≡◌, ℕ, zero, suc, ◌+◌, ◌*◌, ◌/◌, ◌%◌, ◌^◌, ◌<◌, sym, refl, ap, ◌∙◌, mod-eq_of_lt, mul_assoc, pow-suc, zero-add, zero-mul, arith}
use lib.Bits.{bit_xor, xor_assoc, xor_comm, xor_self, xor_zero_l, xor_shifted, shifted_even}
use Rattle.std.proofs.lemmas.Nat.{pow_pos, pow-add, shl-shr, div-mul-add, mul-add-lt}
use Rattle.field.specs.Octets.{coefficient, product, modulus, remainder, octet_times, ReducedProducts}
use Rattle.field.specs.Linear.{coefficient_bit, product_right}
use Rattle.field.specs.OctetProducts.{times_code}

-- a polynomial shifted by more than k places has no coefficient at k
shifted_away : (t j k : ℕ) → coefficient (t * 2 ^ (suc j + k)) k ≡ 0
shifted_away t j k = ap (λ x. x / 2 ^ k % 2) (ap (λ x. t * x) (pow-add 2 (suc j) k) ∙ sym (mul_assoc t (2 ^ suc j) (2 ^ k))) ∙ ap (λ x. x % 2) (shl-shr (t * 2 ^ suc j) k) ∙ shifted_even t j

-- so the n lowest places of one shifted by n or more make no product
product_away : (n j t a : ℕ) → product n a (t * 2 ^ (j + n)) ≡ 0
unfolding product
product_away zero j t a = refl
product_away (suc n) j t a =
    let e : j + suc n ≡ suc j + n = omega arith in
    ap (λ x. product (suc n) a (t * 2 ^ x)) e
    ∙ ap (λ x. bit_xor (x * (a * 2 ^ n)) (product n a (t * 2 ^ (suc j + n)))) (shifted_away t j n)
    ∙ ap (λ x. bit_xor x (product n a (t * 2 ^ (suc j + n)))) (zero-mul (a * 2 ^ n))
    ∙ xor_zero_l (product n a (t * 2 ^ (suc j + n)))
    ∙ product_away n (suc j) t a

-- one coefficient t more at the place n
module _ (n a t d : ℕ) (bit : t < 2) (low : d < 2 ^ n) where
  product_more : product (suc n) a (t * 2 ^ n + d) ≡ bit_xor (t * (a * 2 ^ n)) (product n a d)
  unfolding product
  product_more =
      ap (λ x. bit_xor (x * (a * 2 ^ n)) (product n a (t * 2 ^ n + d))) (ap (λ x. x % 2) (div-mul-add t (2 ^ n) d low) ∙ mod-eq_of_lt bit)
      ∙ ap (λ x. bit_xor (t * (a * 2 ^ n)) x)
      (ap (product n a) (sym (xor_shifted t n d low))
      ∙ product_right n a (t * 2 ^ n) d
      ∙ ap (λ x. bit_xor x (product n a d)) (ap (λ x. product n a (t * 2 ^ x)) (sym (zero-add n)) ∙ product_away n 0 t a)
      ∙ xor_zero_l (product n a d))

-- a polynomial is a multiple of the modulus and its remainder
divided : (n c : ℕ) → (d : ℕ) × (d < 2 ^ n) × (c ≡ bit_xor (product n modulus d) (remainder n c))
unfolding product remainder
divided zero c = (0, pow_pos 0, sym (xor_zero_l c))
divided (suc n) c =
    let t = coefficient c (n + 8) in
    let bit = coefficient_bit c (n + 8) in
    let y = t * (modulus * 2 ^ n) in
    let later = divided n (bit_xor c y) in
    let d = later.0 in
    let within = mul-add-lt t (2 ^ n) d 2 bit later.1 in
    let doubled = pow-suc 2 n in (
      t * 2 ^ n + d,
      omega arith,
      sym
          (ap (λ x. bit_xor x (remainder n (bit_xor c y))) (product_more n modulus t d bit later.1)
          ∙ xor_assoc y (product n modulus d) (remainder n (bit_xor c y))
          ∙ ap (λ x. bit_xor y x) (sym later.2 ∙ xor_comm c y)
          ∙ sym (xor_assoc y y c)
          ∙ ap (λ x. bit_xor x c) (xor_self y)
          ∙ xor_zero_l c),
    )

pub reduced_products : ReducedProducts
unfolding octet_times
reduced_products a b ha hb =
    let parts = divided 7 (product 8 (a % 256) (b % 256)) in
    let same = ap (λ x. product 8 x (b % 256)) (mod-eq_of_lt ha) ∙ ap (product 8 a) (mod-eq_of_lt hb) in
    (times_code a b, (parts.0, sym same ∙ parts.2))
