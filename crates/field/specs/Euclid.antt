-- Euclid's algorithm on a prime and a number below it, with a multiplier for each remainder. Assumes nothing.
use Rattle.std.specs.Prelude.{◌≡◌, ℕ, zero, suc, ◌+◌, ◌-◌, ◌*◌, ◌/◌, ◌%◌, ◌<◌, ◌≤◌, ◌≢◌}
use Rattle.std.proofs.Common.{sym, ap, ◌∙◌, inl, inr, arith, mul_comm, mul_assoc, mul_left_comm, mul-add, add-mul, mod-lt, mod-eq_of_lt, le-mul_of_pos_right, eq-or-lt_of_le}
use Rattle.std.proofs.Math.Nat.{mul-sub, mul-mod_left, div-add-mod, add-mul-mod_self_right}
use Rattle.std.proofs.lemmas.Nat.{mul-le}

-- no number between 1 and n divides n
abbrev pub Undivided : ℕ → Type 0
Undivided n = (d : ℕ) → 1 < d → d < n → n % d ≢ 0

-- what the remainders and their multipliers keep: a · to_low = low and a · to_high = - high modulo n
pub record Multipliers (n a high low to_high to_low : ℕ) : Type 0 where
  pub whole : to_low * high + to_high * low ≡ n
  pub low_count : ℕ
  pub low_is : a * to_low ≡ low + low_count * n
  pub high_count : ℕ
  pub high_is : a * to_high + high ≡ high_count * n
  pub some : 0 < to_low

pub start : (n a : ℕ) → Multipliers n a n a 0 1
start n a = record { whole = omega arith; low_count = 0; low_is = omega arith; high_count = 1; high_is = omega arith; some = omega arith }

-- one remainder by the other moves its multiplier, and the sum of products stays
module _ (p q x y : ℕ) where
  same_whole : x * (p % q) + (y + p / q * x) * q ≡ x * p + y * q
  same_whole =
      let apart = ap (λ z. x * z) (sym (div-add-mod p q)) ∙ mul-add x (q * (p / q)) (p % q) in
      let turned : p / q * x * q ≡ x * (q * (p / q)) = simp (mul_comm, mul_left_comm) in
      let spread = add-mul y (p / q * x) q in
      omega arith

module _ {n a high low to_high to_low : ℕ} (M : Multipliers n a high low to_high to_low) where
  -- the high remainder by the low one
  pub lower_high : Multipliers n a (high % low) low (to_high + high / low * to_low) to_low
  lower_high =
      let k = high / low in
      let parts = div-add-mod high low in
      let high_is = M.high_is in
      let inner = mul-add a to_high (k * to_low) in
      let moved : a * (k * to_low) ≡ k * low + k * (M.low_count * n) = mul_left_comm a k to_low ∙ ap (λ x. k * x) M.low_is ∙ mul-add k low (M.low_count * n) in
      let counted = add-mul M.high_count (k * M.low_count) n ∙ ap (λ x. M.high_count * n + x) (mul_assoc k M.low_count n) in
      let same = mul_comm k low in
      record {
        whole = same_whole high low to_low to_high ∙ M.whole;
        low_count = M.low_count;
        low_is = M.low_is;
        high_count = M.high_count + k * M.low_count;
        high_is = omega arith;
        some = M.some;
      }

  -- the low remainder by the high one
  pub lower_low : Multipliers n a high (low % high) to_high (to_low + low / high * to_high)
  lower_low =
      let k = low / high in
      let parts = div-add-mod low high in
      let low_is = M.low_is in
      let inner = mul-add a to_low (k * to_high) in
      let moved : a * (k * to_high) + k * high ≡ k * (M.high_count * n) = ap (λ x. x + k * high) (mul_left_comm a k to_high) ∙ sym (mul-add k (a * to_high) high) ∙ ap (λ x. k * x) M.high_is in
      let counted = add-mul M.low_count (k * M.high_count) n ∙ ap (λ x. M.low_count * n + x) (mul_assoc k M.high_count n) in
      let same = mul_comm k high in
      let some = M.some in
      let stays = same_whole low high to_high to_low in
      record {
        whole = omega (arith, M.whole);
        low_count = M.low_count + k * M.high_count;
        low_is = omega arith;
        high_count = M.high_count;
        high_is = M.high_is;
        some = omega arith;
      }

  -- a remainder above 1 is not the last where n is prime
  pub high_left : Undivided n → 1 < low → low < n → high ≢ 0
  high_left prime big small z =
      let none = ap (λ x. to_low * x) z in
      let e : n ≡ to_high * low = omega (arith, M.whole) in
      prime low big small (ap (λ x. x % low) e ∙ mul-mod_left to_high low)

  pub low_left : Undivided n → 1 < high → high < n → low ≢ 0
  low_left prime big small z =
      let none = ap (λ x. to_high * x) z in
      let e : n ≡ to_low * high = omega (arith, M.whole) in
      prime high big small (ap (λ x. x % high) e ∙ mul-mod_left to_low high)

  -- multipliers do not pass n
  pub to_high_most : 0 < low → to_high ≤ n
  to_high_most h = let more = le-mul_of_pos_right to_high h in omega (arith, M.whole)

  pub to_low_most : 0 < high → to_low ≤ n
  to_low_most h = let more = le-mul_of_pos_right to_low h in omega (arith, M.whole)

  pub low_code : 1 < high → to_low < n
  low_code big = let more = mul-le to_low 2 to_low high (omega arith) big in omega (arith, M.whole, M.some)

  pub high_code : 1 < n → high ≡ 1 → n - to_high < n
  high_code two one =
      let ends : to_high ≡ 0 → ⊥ = λ z.
      let none = ap (λ x. a * x) z in
      let e : 1 ≡ M.high_count * n = omega (arith, M.high_is) in
      let clash = sym (mod-eq_of_lt two) ∙ ap (λ x. x % n) e ∙ mul-mod_left M.high_count n in
      omega arith in
      omega arith

  -- at a remainder of 1 its multiplier, or what completes it, is the inverse
  pub low_inverts : 1 < n → low ≡ 1 → (a * to_low) % n ≡ 1
  low_inverts two one = ap (λ x. x % n) M.low_is ∙ add-mul-mod_self_right low M.low_count n ∙ ap (λ x. x % n) one ∙ mod-eq_of_lt two

  pub high_inverts : 1 < n → to_high ≤ n → high ≡ 1 → (a * (n - to_high)) % n ≡ 1
  high_inverts two most one =
      let apart = mul-sub a n to_high in
      let more = mul-le a to_high a n (omega arith) most in
      let e : a * (n - to_high) + M.high_count * n ≡ 1 + a * n = omega (arith, M.high_is) in
      sym (add-mul-mod_self_right (a * (n - to_high)) M.high_count n) ∙ ap (λ x. x % n) e ∙ add-mul-mod_self_right 1 a n ∙ mod-eq_of_lt two

-- what holds before a turn
pub record Turn (n a high low to_high to_low : ℕ) : Type 0 where
  pub multipliers : Multipliers n a high low to_high to_low
  pub low_some : 0 < low
  pub low_less : low < high
  pub high_most : high ≤ n

-- what holds in its middle
pub record Half (n a high low to_high to_low : ℕ) : Type 0 where
  pub multipliers : Multipliers n a high low to_high to_low
  pub high_some : 0 < high
  pub high_less : high < low
  pub low_most : low ≤ n
  pub most : to_high ≤ n

pub half : {n a high low to_high to_low : ℕ} → Undivided n → Turn n a high low to_high to_low → 1 < low → Half n a (high % low) low (to_high + high / low * to_low) to_low
half {high = high} {low = low} prime T big =
    let turned = lower_high T.multipliers in
    let less = T.low_less in
    let top = T.high_most in
    let left = high_left turned prime big (omega arith) in
    record {
      multipliers = turned;
      high_some = omega arith;
      high_less = mod-lt high T.low_some;
      low_most = omega arith;
      most = to_high_most turned T.low_some;
    }

module _ {n a high low to_high to_low : ℕ} (prime : Undivided n) (H : Half n a high low to_high to_low) (on : 1 < high) where
  pub next : Turn n a high (low % high) to_high (to_low + low / high * to_high)
  next =
      let turned = lower_low H.multipliers in
      let less = H.high_less in
      let top = H.low_most in
      let left = low_left turned prime on (omega arith) in
      record { multipliers = turned; low_some = omega arith; low_less = mod-lt low H.high_some; high_most = omega arith }

  pub next_most : to_low + low / high * to_high ≤ n
  next_most = to_low_most (lower_low H.multipliers) H.high_some

-- the turns end at an inverse
module _ {n a : ℕ} (two : 1 < n) (prime : Undivided n) where
  pub inverted : (fuel : ℕ) {high low to_high to_low : ℕ} → low < fuel → Turn n a high low to_high to_low → (b : ℕ) × ((a * b) % n ≡ 1)
  inverted zero h T = absurd (omega arith)
  inverted (suc fuel) {high = high} {low = low} {to_high = to_high} {to_low = to_low} h T =
      elim (eq-or-lt_of_le T.low_some) [
        | inl one ↦ (to_low, low_inverts T.multipliers two (sym one))
        | inr big ↦
            let middle = half prime T big in
            elim (eq-or-lt_of_le middle.high_some) [
              | inl one ↦ (n - (to_high + high / low * to_low), high_inverts middle.multipliers two middle.most (sym one))
              | inr on ↦
                  let later = next prime middle on in
                  let less = middle.high_less in
                  let below = later.low_less in
                  inverted fuel (omega arith) later
            ]
      ]
