-- The product of octets, by its values at the powers of 2. Assumes nothing.
use Rattle.std.specs.Prelude.{◌≡◌, ℕ, ◌%◌, ◌^◌, ◌<◌, refl}
use Rattle.std.proofs.Common.{sym, ap, ◌∙◌, arith, mod-lt, lit<}
use Rattle.std.proofs.Math.Nat.{mod-mod}
use Rattle.field.specs.Octets.{product, remainder, octet_times}
use Rattle.field.specs.Tested.{equal_below, equal_pairs, equal_triples}
use Rattle.field.specs.Linear.{Linear, after, octet_linear, times_left, times_right, by_basis}

pub code : (a : ℕ) → a % 256 < 256
code a = mod-lt a (lit< tt)

-- facts at the powers of 2 below 256, computed
basis_commutes : (i j : ℕ) → i < 8 → j < 8 → octet_times (2 ^ i) (2 ^ j) ≡ octet_times (2 ^ j) (2 ^ i)
unfolding octet_times product remainder
basis_commutes = equal_pairs (λ i j. octet_times (2 ^ i) (2 ^ j)) (λ i j. octet_times (2 ^ j) (2 ^ i)) 8 refl

basis_stays : (i j : ℕ) → i < 8 → j < 8 → octet_times (2 ^ i) (2 ^ j) ≡ octet_times (2 ^ i) (2 ^ j) % 256
unfolding octet_times product remainder
basis_stays = equal_pairs (λ i j. octet_times (2 ^ i) (2 ^ j)) (λ i j. octet_times (2 ^ i) (2 ^ j) % 256) 8 refl

basis_associates : (i j k : ℕ) → i < 8 → j < 8 → k < 8 → octet_times (octet_times (2 ^ i) (2 ^ j)) (2 ^ k) ≡ octet_times (2 ^ i) (octet_times (2 ^ j) (2 ^ k))
unfolding octet_times product remainder
basis_associates = equal_triples (λ i j k. octet_times (octet_times (2 ^ i) (2 ^ j)) (2 ^ k)) (λ i j k. octet_times (2 ^ i) (octet_times (2 ^ j) (2 ^ k))) 8 refl

basis_keeps : (i : ℕ) → i < 8 → octet_times (2 ^ i) 1 ≡ 2 ^ i
unfolding octet_times product remainder
basis_keeps = equal_below (λ i. octet_times (2 ^ i) 1) (λ i. 2 ^ i) 8 refl

-- functions of two octets that keep exclusive or in both agree where they agree at the powers of 2
module _ (f g : ℕ → ℕ → ℕ) (f-left : (b : ℕ) → Linear (λ a. f a b)) (f-right : (a : ℕ) → Linear (f a)) (g-left : (b : ℕ) → Linear (λ a. g a b)) (g-right : (a : ℕ) → Linear (g a)) where
  by_bases : ((i j : ℕ) → i < 8 → j < 8 → f (2 ^ i) (2 ^ j) ≡ g (2 ^ i) (2 ^ j)) → (a b : ℕ) → a < 256 → b < 256 → f a b ≡ g a b
  by_bases same a b ha hb =
      by_basis (λ a. f a b) (λ a. g a b) (f-left b) (g-left b) 8
      (λ i hi. by_basis (f (2 ^ i)) (g (2 ^ i)) (f-right (2 ^ i)) (g-right (2 ^ i)) 8 (λ j hj. same i j hi hj) b hb)
      a
      ha

pub times_comm : (a b : ℕ) → a < 256 → b < 256 → octet_times a b ≡ octet_times b a
times_comm = by_bases octet_times (λ a b. octet_times b a) times_left times_right times_right times_left basis_commutes

times_stays : (a b : ℕ) → a < 256 → b < 256 → octet_times a b ≡ octet_times a b % 256
times_stays =
    by_bases octet_times (λ a b. octet_times a b % 256) times_left times_right
    (λ b. after (λ x. x % 256) (λ a. octet_times a b) octet_linear (times_left b))
    (λ a. after (λ x. x % 256) (λ b. octet_times a b) octet_linear (times_right a))
    basis_stays

pub times_assoc : (a b c : ℕ) → a < 256 → b < 256 → c < 256 → octet_times (octet_times a b) c ≡ octet_times a (octet_times b c)
times_assoc a b c ha hb hc =
    by_bases (λ a b. octet_times (octet_times a b) c) (λ a b. octet_times a (octet_times b c))
    (λ b. after (λ x. octet_times x c) (λ a. octet_times a b) (times_left c) (times_left b))
    (λ a. after (λ x. octet_times x c) (λ b. octet_times a b) (times_left c) (times_right a))
    (λ b. times_left (octet_times b c))
    (λ a. after (λ x. octet_times a x) (λ b. octet_times b c) (times_right a) (times_left c))
    (λ i j hi hj.
    by_basis (λ c. octet_times (octet_times (2 ^ i) (2 ^ j)) c) (λ c. octet_times (2 ^ i) (octet_times (2 ^ j) c))
    (times_right (octet_times (2 ^ i) (2 ^ j)))
    (after (λ x. octet_times (2 ^ i) x) (λ c. octet_times (2 ^ j) c) (times_right (2 ^ i)) (times_right (2 ^ j)))
    8
    (λ k hk. basis_associates i j k hi hj hk)
    c
    hc)
    a
    b
    ha
    hb

pub times-one : (a : ℕ) → a < 256 → octet_times a 1 ≡ a
times-one = by_basis (λ a. octet_times a 1) (λ a. a) (times_left 1) (λ a b. refl) 8 basis_keeps

pub times_reads : (a b : ℕ) → octet_times a b ≡ octet_times (a % 256) (b % 256)
unfolding octet_times
times_reads a b = ap (λ x. remainder 7 (product 8 x (b % 256))) (sym (mod-mod a 256)) ∙ ap (λ x. remainder 7 (product 8 (a % 256 % 256) x)) (sym (mod-mod b 256))

pub times_code : (a b : ℕ) → octet_times a b < 256
times_code a b = let e = times_reads a b ∙ times_stays (a % 256) (b % 256) (code a) (code b) in let h = code (octet_times (a % 256) (b % 256)) in omega arith
