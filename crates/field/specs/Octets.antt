-- The octets of RFC 6330, section 5.7: polynomials of degree below 8 over the field of two elements, modulo one of
-- degree 8. The bits of a number are the coefficients. Assumes nothing.
use Rattle.std.specs.Prelude.{◌≡◌, ℕ, zero, suc, ◌+◌, ◌*◌, ◌/◌, ◌%◌, ◌^◌, ◌<◌, bit_xor}
use Rattle.field.specs.Operations.{Operations}

-- the coefficient of x^k
abbrev pub coefficient : ℕ → ℕ → ℕ
coefficient a k = a / 2 ^ k % 2

-- the product of a polynomial and the n lowest places of another: the first, shifted to each place with a coefficient 1
unfoldable pub product : ℕ → ℕ → ℕ → ℕ
product zero a b = 0
product (suc n) a b = bit_xor (coefficient b n * (a * 2 ^ n)) (product n a b)

-- the polynomial with bits 285, x⁸ + x⁴ + x³ + x² + 1
abbrev pub modulus : ℕ
modulus = 285

-- the remainder by it of a polynomial of degree below n + 8, by long division from the highest place
unfoldable pub remainder : ℕ → ℕ → ℕ
remainder zero a = a
remainder (suc n) a = remainder n (bit_xor a (coefficient a (n + 8) * (modulus * 2 ^ n)))

unfoldable pub octet_times : ℕ → ℕ → ℕ
octet_times a b = remainder 7 (product 8 (a % 256) (b % 256))

-- a product of octets has degree below 8, and differs from the product of the polynomials by a multiple of the modulus
abbrev pub ReducedProducts : Type 0
ReducedProducts = (a b : ℕ) → a < 256 → b < 256 → (octet_times a b < 256) × ((d : ℕ) × (product 8 a b ≡ bit_xor (product 7 modulus d) (octet_times a b)))

abbrev pub octets : Operations
octets = record { q = 256; plus = λ a b. bit_xor (a % 256) (b % 256); negative = λ a. a % 256; times = octet_times }

-- E(k), the k-th power of 2
unfoldable pub power : ℕ → ℕ
power zero = 1
power (suc k) = octet_times 2 (power k)
