-- What algebra draws from the laws of a field. Assumes nothing.
use Rattle.std.proofs.Common.{◌≡◌, ℕ, ◌%◌, ◌<◌, ◌⊎◌, Some, None, unwrap_or, sym, refl, ap, ◌∙◌, inl, inr, mod-eq_of_lt, arith}
use Rattle.std.proofs.lemmas.Bool.{cases_eq}
use native.Mathlib.Nat.{mod-mod, zero-mod}
use Rattle.field.specs.Operations.{reciprocal, inverse}
use Rattle.field.specs.Laws.{Lawful, Consequences}
use Rattle.field.specs.Reciprocals.{some_times, ways, found_inverse}
use Rattle.field.specs.Reciprocals as found

-- the laws as equations that a rewriting can use
module _ (F : Lawful) where
  pub plus_comm : (a b : ℕ) → F.ops.plus a b ≡ F.ops.plus b a
  plus_comm = F.plus_comm

  pub plus_assoc : (a b c : ℕ) → F.ops.plus (F.ops.plus a b) c ≡ F.ops.plus a (F.ops.plus b c)
  plus_assoc = F.plus_assoc

  pub times_comm : (a b : ℕ) → F.ops.times a b ≡ F.ops.times b a
  times_comm = F.times_comm

  pub times_assoc : (a b c : ℕ) → F.ops.times (F.ops.times a b) c ≡ F.ops.times a (F.ops.times b c)
  times_assoc = F.times_assoc

  pub times-plus : (a b c : ℕ) → F.ops.times a (F.ops.plus b c) ≡ F.ops.plus (F.ops.times a b) (F.ops.times a c)
  times-plus = F.times-plus

  pub plus-times : (a b c : ℕ) → F.ops.times (F.ops.plus a b) c ≡ F.ops.plus (F.ops.times a c) (F.ops.times b c)
  plus-times a b c = simp (F.times_comm (F.ops.plus a b) c, F.times-plus, F.times_comm c a, F.times_comm c b)

  pub plus-zero : (a : ℕ) → F.ops.plus a 0 ≡ a % F.ops.q
  plus-zero = F.plus-zero

  pub zero-plus : (a : ℕ) → F.ops.plus 0 a ≡ a % F.ops.q
  zero-plus a = F.plus_comm 0 a ∙ F.plus-zero a

  pub times-one : (a : ℕ) → F.ops.times a 1 ≡ a % F.ops.q
  times-one = F.times-one

  pub one-times : (a : ℕ) → F.ops.times 1 a ≡ a % F.ops.q
  one-times a = F.times_comm 1 a ∙ F.times-one a

  pub plus_left : (a b : ℕ) → F.ops.plus (a % F.ops.q) b ≡ F.ops.plus a b
  plus_left = F.plus_left

  pub plus_right : (a b : ℕ) → F.ops.plus a (b % F.ops.q) ≡ F.ops.plus a b
  plus_right a b = F.plus_comm a (b % F.ops.q) ∙ F.plus_left b a ∙ F.plus_comm b a

  pub times_left : (a b : ℕ) → F.ops.times (a % F.ops.q) b ≡ F.ops.times a b
  times_left = F.times_left

  pub times_right : (a b : ℕ) → F.ops.times a (b % F.ops.q) ≡ F.ops.times a b
  times_right a b = F.times_comm a (b % F.ops.q) ∙ F.times_left b a ∙ F.times_comm b a

  pub negative_of : (a : ℕ) → F.ops.negative (a % F.ops.q) ≡ F.ops.negative a
  negative_of = F.negative_of

  pub plus-mod : (a b : ℕ) → F.ops.plus a b % F.ops.q ≡ F.ops.plus a b
  plus-mod a b = mod-eq_of_lt (F.plus_code a b)

  pub times-mod : (a b : ℕ) → F.ops.times a b % F.ops.q ≡ F.ops.times a b
  times-mod a b = mod-eq_of_lt (F.times_code a b)

  pub negative-mod : (a : ℕ) → F.ops.negative a % F.ops.q ≡ F.ops.negative a
  negative-mod a = mod-eq_of_lt (F.negative_code a)

  pub plus-negative : (a : ℕ) → F.ops.plus a (F.ops.negative a) ≡ 0
  plus-negative = F.plus-negative

  pub zero-mod-q : 0 % F.ops.q ≡ 0
  zero-mod-q = zero-mod F.ops.q

  pub one-mod-q : 1 % F.ops.q ≡ 1
  one-mod-q = mod-eq_of_lt F.two_codes

  -- a number and its negative fall out of a sum
  pub plus-negative-plus : (a b : ℕ) → F.ops.plus a (F.ops.plus (F.ops.negative a) b) ≡ b % F.ops.q
  plus-negative-plus a b = sym (F.plus_assoc a (F.ops.negative a) b) ∙ ap (λ x. F.ops.plus x b) (F.plus-negative a) ∙ zero-plus b

  pub negative-plus-plus : (a b : ℕ) → F.ops.plus (F.ops.negative a) (F.ops.plus a b) ≡ b % F.ops.q
  negative-plus-plus a b = sym (F.plus_assoc (F.ops.negative a) a b) ∙ ap (λ x. F.ops.plus x b) (F.plus_comm (F.ops.negative a) a ∙ F.plus-negative a) ∙ zero-plus b

  pub plus_cancel : (a b c : ℕ) → F.ops.plus a b ≡ F.ops.plus a c → b % F.ops.q ≡ c % F.ops.q
  plus_cancel a b c e = sym (negative-plus-plus a b) ∙ ap (λ x. F.ops.plus (F.ops.negative a) x) e ∙ negative-plus-plus a c

  pub negative_unique : (a b : ℕ) → F.ops.plus a b ≡ 0 → b % F.ops.q ≡ F.ops.negative a
  negative_unique a b e = plus_cancel a b (F.ops.negative a) (e ∙ sym (F.plus-negative a)) ∙ negative-mod a

  pub times-zero : (a : ℕ) → F.ops.times a 0 ≡ 0
  times-zero a =
      sym (times-mod a 0)
      ∙ plus_cancel (F.ops.times a 0) (F.ops.times a 0) 0
      (sym (F.times-plus a 0 0) ∙ ap (λ x. F.ops.times a x) (F.plus-zero 0 ∙ zero-mod-q) ∙ sym (plus-zero (F.ops.times a 0) ∙ times-mod a 0))
      ∙ zero-mod-q

  pub zero-times : (a : ℕ) → F.ops.times 0 a ≡ 0
  zero-times a = F.times_comm 0 a ∙ times-zero a

  -- a factor that is read as 0
  pub zero_read_times : (a b : ℕ) → a % F.ops.q ≡ 0 → F.ops.times a b ≡ 0
  zero_read_times a b z = sym (times_left a b) ∙ ap (λ x. F.ops.times x b) z ∙ zero-times b

  pub times_zero_read : (a b : ℕ) → b % F.ops.q ≡ 0 → F.ops.times a b ≡ 0
  times_zero_read a b z = F.times_comm a b ∙ zero_read_times b a z

  pub negative-zero : F.ops.negative 0 ≡ 0
  negative-zero = sym (negative_unique 0 0 (F.plus-zero 0 ∙ zero-mod-q)) ∙ zero-mod-q

  pub negative-negative : (a : ℕ) → F.ops.negative (F.ops.negative a) ≡ a % F.ops.q
  negative-negative a = sym (negative_unique (F.ops.negative a) a (F.plus_comm (F.ops.negative a) a ∙ F.plus-negative a))

  pub negative-plus : (a b : ℕ) → F.ops.negative (F.ops.plus a b) ≡ F.ops.plus (F.ops.negative a) (F.ops.negative b)
  negative-plus a b =
      sym
      (negative_unique (F.ops.plus a b) (F.ops.plus (F.ops.negative a) (F.ops.negative b))
      (F.plus_assoc a b (F.ops.plus (F.ops.negative a) (F.ops.negative b))
      ∙ ap (λ x. F.ops.plus a (F.ops.plus b x)) (F.plus_comm (F.ops.negative a) (F.ops.negative b))
      ∙ ap (λ x. F.ops.plus a x) (plus-negative-plus b (F.ops.negative a) ∙ negative-mod a)
      ∙ F.plus-negative a))
      ∙ plus-mod (F.ops.negative a) (F.ops.negative b)

  pub times-negative : (a b : ℕ) → F.ops.times a (F.ops.negative b) ≡ F.ops.negative (F.ops.times a b)
  times-negative a b =
      sym (times-mod a (F.ops.negative b))
      ∙ negative_unique (F.ops.times a b) (F.ops.times a (F.ops.negative b))
      (sym (F.times-plus a b (F.ops.negative b)) ∙ ap (λ x. F.ops.times a x) (F.plus-negative b) ∙ times-zero a)

  pub negative-times : (a b : ℕ) → F.ops.times (F.ops.negative a) b ≡ F.ops.negative (F.ops.times a b)
  negative-times a b = F.times_comm (F.ops.negative a) b ∙ times-negative b a ∙ ap F.ops.negative (F.times_comm b a)

  pub plus_left_comm : (a b c : ℕ) → F.ops.plus a (F.ops.plus b c) ≡ F.ops.plus b (F.ops.plus a c)
  plus_left_comm a b c = sym (F.plus_assoc a b c) ∙ ap (λ x. F.ops.plus x c) (F.plus_comm a b) ∙ F.plus_assoc b a c

  -- a number and its negative fall out of a sum with one or two other summands between them
  pub plus_between : (a b : ℕ) → F.ops.plus a (F.ops.plus b (F.ops.negative a)) ≡ b % F.ops.q
  plus_between a b = ap (λ x. F.ops.plus a x) (F.plus_comm b (F.ops.negative a)) ∙ plus-negative-plus a b

  pub plus_between_plus : (a b c : ℕ) → F.ops.plus a (F.ops.plus b (F.ops.plus (F.ops.negative a) c)) ≡ F.ops.plus b c
  plus_between_plus a b c = ap (λ x. F.ops.plus a x) (plus_left_comm b (F.ops.negative a) c) ∙ plus-negative-plus a (F.ops.plus b c) ∙ plus-mod b c

  pub plus_beyond : (a b c : ℕ) → F.ops.plus a (F.ops.plus b (F.ops.plus c (F.ops.negative a))) ≡ F.ops.plus b c
  plus_beyond a b c = plus_left_comm a b (F.ops.plus c (F.ops.negative a)) ∙ ap (λ x. F.ops.plus b x) (plus_between a c) ∙ plus_right b c

  pub plus_beyond_plus : (a b c d : ℕ) → F.ops.plus a (F.ops.plus b (F.ops.plus c (F.ops.plus (F.ops.negative a) d))) ≡ F.ops.plus b (F.ops.plus c d)
  plus_beyond_plus a b c d = plus_left_comm a b (F.ops.plus c (F.ops.plus (F.ops.negative a) d)) ∙ ap (λ x. F.ops.plus b x) (plus_between_plus a c d)

  pub negative_between : (a b : ℕ) → F.ops.plus (F.ops.negative a) (F.ops.plus b a) ≡ b % F.ops.q
  negative_between a b = ap (λ x. F.ops.plus (F.ops.negative a) x) (F.plus_comm b a) ∙ negative-plus-plus a b

  pub negative_between_plus : (a b c : ℕ) → F.ops.plus (F.ops.negative a) (F.ops.plus b (F.ops.plus a c)) ≡ F.ops.plus b c
  negative_between_plus a b c = ap (λ x. F.ops.plus (F.ops.negative a) x) (plus_left_comm b a c) ∙ negative-plus-plus a (F.ops.plus b c) ∙ plus-mod b c

  pub times_left_comm : (a b c : ℕ) → F.ops.times a (F.ops.times b c) ≡ F.ops.times b (F.ops.times a c)
  times_left_comm a b c = sym (F.times_assoc a b c) ∙ ap (λ x. F.ops.times x c) (F.times_comm a b) ∙ F.times_assoc b a c

  pub inverse_code : (a : ℕ) → inverse F.ops a < F.ops.q
  inverse_code a = let h = F.two_codes in found.inverse_code F.ops a (omega arith)

  -- a number and its inverse fall out of a product
  pub inverse-times-times : (a b : ℕ) → (a % F.ops.q ≡ 0 → ⊥) → F.ops.times (inverse F.ops a) (F.ops.times a b) ≡ b % F.ops.q
  inverse-times-times a b some =
      sym (F.times_assoc (inverse F.ops a) a b) ∙ ap (λ x. F.ops.times x b) (F.times_comm (inverse F.ops a) a ∙ F.times-inverse a some) ∙ one-times b

  pub times_cancel : (a b c : ℕ) → (a % F.ops.q ≡ 0 → ⊥) → F.ops.times a b ≡ F.ops.times a c → b % F.ops.q ≡ c % F.ops.q
  times_cancel a b c some e = sym (inverse-times-times a b some) ∙ ap (λ x. F.ops.times (inverse F.ops a) x) e ∙ inverse-times-times a c some

  pub zero-product : (a b : ℕ) → F.ops.times a b ≡ 0 → (a % F.ops.q ≡ 0) ⊎ (b % F.ops.q ≡ 0)
  zero-product a b e =
      elim (cases_eq (a % F.ops.q) 0) [
        | inl zero_a ↦ inl zero_a
        | inr some ↦ inr (times_cancel a b 0 some (e ∙ sym (times-zero a)) ∙ zero-mod-q)
      ]

  -- what has a product of 1 is not read as 0
  pub one_product : (a b : ℕ) → F.ops.times a b ≡ 1 → a % F.ops.q ≡ 0 → ⊥
  one_product a b e zero_a = let z : ◌≡◌ {A = ℕ} 0 1 = sym (zero_read_times a b zero_a) ∙ e in omega arith

  pub inverse_unique : (a b : ℕ) → F.ops.times a b ≡ 1 → b % F.ops.q ≡ inverse F.ops a
  inverse_unique a b e =
      let some = one_product a b e in
      times_cancel a b (inverse F.ops a) some (e ∙ sym (F.times-inverse a some)) ∙ mod-eq_of_lt (inverse_code a)

  pub none_of_zero : (a : ℕ) → a % F.ops.q ≡ 0 → reciprocal F.ops a ≡ None
  none_of_zero a zero_a = ways F.ops a (λ r. r ≡ None) (λ e. refl) (λ b e. absurd (one_product a b (some_times F.ops a b e).0 zero_a))

  pub some_of_others : (a : ℕ) → (a % F.ops.q ≡ 0 → ⊥) → reciprocal F.ops a ≡ Some (inverse F.ops a)
  some_of_others a some = found_inverse F.ops a (inverse F.ops a) (inverse_code a) (F.times-inverse a some)

  -- the code that makes a product of 1 is the reciprocal
  pub reciprocal_is : (a b : ℕ) → b < F.ops.q → F.ops.times a b ≡ 1 → reciprocal F.ops a ≡ Some b
  reciprocal_is a b h e = found_inverse F.ops a b h e ∙ ap Some (sym (inverse_unique a b e) ∙ mod-eq_of_lt h)

  -- the inverse reads by the remainder too
  pub reciprocal_of : (a : ℕ) → reciprocal F.ops (a % F.ops.q) ≡ reciprocal F.ops a
  reciprocal_of a =
      elim (cases_eq (a % F.ops.q) 0) [
        | inl zero_a ↦ none_of_zero (a % F.ops.q) (mod-mod a F.ops.q ∙ zero_a) ∙ sym (none_of_zero a zero_a)
        | inr some ↦ reciprocal_is (a % F.ops.q) (inverse F.ops a) (inverse_code a) (times_left a (inverse F.ops a) ∙ F.times-inverse a some) ∙ sym (some_of_others a some)
      ]

  pub inverse_of : (a : ℕ) → inverse F.ops (a % F.ops.q) ≡ inverse F.ops a
  unfolding inverse
  inverse_of a = ap (λ r. unwrap_or r 0) (reciprocal_of a)

  -- numbers whose difference is 0 are read alike
  pub difference_zero : (a b : ℕ) → F.ops.plus a (F.ops.negative b) ≡ 0 → a % F.ops.q ≡ b % F.ops.q
  difference_zero a b e = negative_unique (F.ops.negative b) a (F.plus_comm (F.ops.negative b) a ∙ e) ∙ negative-negative b

  -- and conversely
  pub zero_difference : (a b : ℕ) → a % F.ops.q ≡ b % F.ops.q → F.ops.plus a (F.ops.negative b) ≡ 0
  zero_difference a b e =
      sym (plus_left a (F.ops.negative b))
      ∙ ap (λ x. F.ops.plus x (F.ops.negative b)) e
      ∙ plus_left b (F.ops.negative b)
      ∙ F.plus-negative b

  pub consequences : Consequences F.ops
  consequences =
      record {
        negative_unique = negative_unique;
        inverse_unique = inverse_unique;
        zero-product = zero-product;
        plus_cancel = plus_cancel;
        times_cancel = times_cancel;
        none_of_zero = none_of_zero;
        some_of_others = some_of_others;
        inverse_code = inverse_code;
        reciprocal_of = reciprocal_of;
        difference_zero = difference_zero;
      }

-- rules that spread products over sums, sort both, and let a number and its negative fall out where at most two others stand between them
pub ruleset ring = (times-plus, plus-times, times-negative, negative-times, negative-plus, negative-negative, negative-zero, times-zero, zero-times, times-one, one-times, plus-zero, zero-plus, plus-negative, plus-negative-plus, negative-plus-plus, plus_between, plus_between_plus, plus_beyond, plus_beyond_plus, negative_between, negative_between_plus, plus_left, plus_right, times_left, times_right, negative_of, inverse_of, plus-mod, times-mod, negative-mod, mod-mod, zero-mod-q, one-mod-q, plus_assoc, plus_comm, plus_left_comm, times_assoc, times_comm, times_left_comm)

-- what the rules are for: an equation of sums and products, by itself
ring_normalises : (F : Lawful) (a b c d : ℕ) → F.ops.plus (F.ops.plus (F.ops.times a (F.ops.plus d b)) c) (F.ops.negative (F.ops.times b (F.ops.plus a 0))) ≡ F.ops.plus c (F.ops.times d a)
ring_normalises F a b c d = simp ring
