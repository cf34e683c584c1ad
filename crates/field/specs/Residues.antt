-- The integers modulo a prime are a field. Assumes nothing.
use Rattle.std.specs.Prelude.{◌≡◌, ℕ, suc, ◌+◌, ◌-◌, ◌*◌, ◌/◌, ◌%◌, ◌<◌, ◌≤◌, Bool, true, false, not, ◌==◌, ◌≢◌, nat_lt, refl}
use Rattle.std.proofs.Math.Path.{sym, ap}
use Rattle.std.proofs.Common.{◌∙◌, add-zero, add_comm, add_assoc, mul-one, mul_comm, mul_assoc, mul-add, add-mul, mod-lt, mod-eq_of_lt, lit<, lit≤}
use native.Mathlib.Omega.{arith}
use Rattle.std.proofs.Math.Nat.{mul-mod_left, mod_self, mod-mod, add-mod, mod-add-mod, add-mod-mod, div-add-mod, mul-add-mod_self_left}
use Rattle.std.proofs.lemmas.Nat.{mul-le}
use borrow.Author.Tests.{eq-eqb, ltb-true, ltb-false}
use Rattle.field.specs.Laws.{FieldLaws, Lawful}
use Rattle.field.specs.Modulo.{modulo}
use Rattle.field.specs.Reciprocals.{inverse_works}
use Rattle.field.specs.LawsForAll.{lawful}
use Rattle.field.specs.Tested.{all_below, all_below_lem}
use Rattle.field.specs.Euclid.{Undivided, start, inverted}

module _ (n : ℕ) where
  mul-mod_l : (a b : ℕ) → (a % n * b) % n ≡ (a * b) % n
  mul-mod_l a b =
      sym
      (ap (λ x. (x * b) % n) (sym (div-add-mod a n))
      ∙ ap (λ x. x % n) (add-mul (n * (a / n)) (a % n) b ∙ ap (λ x. x + a % n * b) (mul_assoc n (a / n) b))
      ∙ mul-add-mod_self_left n (a / n * b) (a % n * b))

  mul-mod_r : (a b : ℕ) → (a * (b % n)) % n ≡ (a * b) % n
  mul-mod_r a b = ap (λ x. x % n) (mul_comm a (b % n)) ∙ mul-mod_l b a ∙ ap (λ x. x % n) (mul_comm b a)

  pub modulo_laws : 1 < n → n ≤ 65521 → Undivided n → FieldLaws (modulo n)
  modulo_laws two most prime =
      let code : (a : ℕ) → a % n < n = λ a. mod-lt a (omega arith) in
      record {
        two_codes = two;
        at_most = most;
        plus_reads = λ a b. add-mod a b n;
        negative_reads = λ a. ap (λ x. (n - x) % n) (sym (mod-mod a n));
        times_reads = λ a b. sym (mul-mod_l a (b % n) ∙ mul-mod_r a b);
        plus_code = λ a b. code (a + b);
        negative_code = λ a. code (n - a % n);
        times_code = λ a b. code (a * b);
        plus_comm = λ a b _ _. ap (λ x. x % n) (add_comm a b);
        plus_assoc = λ a b c _ _ _. mod-add-mod (a + b) n c ∙ ap (λ x. x % n) (add_assoc a b c) ∙ sym (add-mod-mod a (b + c) n);
        times_comm = λ a b _ _. ap (λ x. x % n) (mul_comm a b);
        times_assoc = λ a b c _ _ _. mul-mod_l (a * b) c ∙ ap (λ x. x % n) (mul_assoc a b c) ∙ sym (mul-mod_r a (b * c));
        times-plus = λ a b c _ _ _. mul-mod_r a (b + c) ∙ ap (λ x. x % n) (mul-add a b c) ∙ add-mod (a * b) (a * c) n;
        plus-zero = λ a h. ap (λ x. x % n) (add-zero a) ∙ mod-eq_of_lt h;
        times-one = λ a h. ap (λ x. x % n) (mul-one a) ∙ mod-eq_of_lt h;
        plus-negative = λ a h.
            let own = mod-eq_of_lt h in
            let e : a + (n - a % n) ≡ n = omega arith in
            add-mod-mod a (n - a % n) n ∙ ap (λ x. x % n) e ∙ mod_self n;
        times-inverse = λ a h some.
            let b = inverted two prime (suc a) (omega arith) (record { multipliers = start n a; low_some = omega arith; low_less = h; high_most = omega arith }) in
            inverse_works (modulo n) a (b.0 % n) (code b.0) (mul-mod_r a b.0 ∙ b.1);
      }

-- d + 2 does not divide n
unfoldable pub divides_not : ℕ → ℕ → Bool
divides_not n d = not (n % (d + 2) == 0)

-- where no number from 2 to r + 1 divides n
module _ (n r : ℕ) (passed : all_below (divides_not n) r ≡ true) where
  small_divisor : (d : ℕ) → 1 < d → d < r + 2 → n % d ≢ 0
  unfolding divides_not
  small_divisor d one less e =
      let two : d - 2 + 2 ≡ d = omega arith in
      let divides = eq-eqb (n % (d - 2 + 2)) 0 (ap (λ x. n % x) two ∙ e) in
      let z : true ≡ false = sym (all_below_lem (divides_not n) r passed (d - 2) (omega arith)) ∙ ap not divides in
      let z : ◌≡◌ {A = ℕ} 0 1 = cc in
      omega arith

  -- of a divisor and its quotient one is at most the root
  pub undivided_by_test : n < (r + 2) * (r + 2) → Undivided n
  undivided_by_test root d one less e =
      let whole = div-add-mod n d in
      (elim (nat_lt d (r + 2)) as (λ t. nat_lt d (r + 2) ≢ t) [
        | true ↦ λ p. small_divisor d one (ltb-true d (r + 2) p) e
        | false ↦ λ p.
            let large : r + 2 ≤ d = ltb-false d (r + 2) p in
            let most : (r + 2 ≤ n / d) → ⊥ = λ h. let product = mul-le (r + 2) (r + 2) d (n / d) large h in omega arith in
            let few : (n / d ≤ 1) → ⊥ = λ h. let product = mul-le d (n / d) d 1 (omega arith) h in omega arith in
            let both : n ≡ d * (n / d) = omega arith in
            small_divisor (n / d) (omega arith) (omega arith) (ap (λ x. x % (n / d)) both ∙ mul-mod_left d (n / d))
      ])
      refl

pub undivided : Undivided 65521
unfolding divides_not
undivided = undivided_by_test 65521 254 refl (lit< tt)

pub prime_laws : FieldLaws (modulo 65521)
prime_laws = modulo_laws 65521 (lit< tt) (lit≤ tt) undivided

abbrev pub prime_field : Lawful
prime_field = lawful (modulo 65521) prime_laws
