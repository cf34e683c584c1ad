-- The laws for all numbers, from the laws on codes. Assumes nothing.
use Rattle.std.specs.Prelude.{◌≡◌, ◌≢◌, ℕ, ◌%◌, ◌<◌}
use Rattle.std.proofs.Common.{sym, ap, ◌∙◌, arith, mod-lt}
use Rattle.std.proofs.Math.Nat.{mod-mod}
use Rattle.field.specs.Operations.{Operations, inverse}
use Rattle.field.specs.Laws.{FieldLaws, Lawful}
use Rattle.field.specs.Reciprocals.{inverse_code, inverse_works}

module _ (K : Operations) (L : FieldLaws K) where
  pub code : (a : ℕ) → a % K.q < K.q
  code a = let h = L.two_codes in mod-lt a (omega arith)

  -- an operation that reads by remainders
  module _ (f : ℕ → ℕ → ℕ) (reads : (a b : ℕ) → f a b ≡ f (a % K.q) (b % K.q)) where
    pub left : (a b : ℕ) → f (a % K.q) b ≡ f a b
    left a b = reads (a % K.q) b ∙ ap (λ x. f x (b % K.q)) (mod-mod a K.q) ∙ sym (reads a b)

    pub right : (a b : ℕ) → f a (b % K.q) ≡ f a b
    right a b = reads a (b % K.q) ∙ ap (λ x. f (a % K.q) x) (mod-mod b K.q) ∙ sym (reads a b)

    below : (a b c : ℕ) → f (f a b) c ≡ f (f (a % K.q) (b % K.q)) (c % K.q)
    below a b c = ap (λ x. f x c) (reads a b) ∙ sym (right (f (a % K.q) (b % K.q)) c)

    pub under : (g : ℕ → ℕ → ℕ) → ((a b : ℕ) → g a b ≡ g (a % K.q) (b % K.q)) → (a b c : ℕ) → f a (g b c) ≡ f (a % K.q) (g (b % K.q) (c % K.q))
    under g greads a b c = ap (λ x. f a x) (greads b c) ∙ sym (left a (g (b % K.q) (c % K.q)))

    pub comm : ((a b : ℕ) → a < K.q → b < K.q → f a b ≡ f b a) → (a b : ℕ) → f a b ≡ f b a
    comm law a b = reads a b ∙ law (a % K.q) (b % K.q) (code a) (code b) ∙ sym (reads b a)

    pub assoc : ((a b c : ℕ) → a < K.q → b < K.q → c < K.q → f (f a b) c ≡ f a (f b c)) → (a b c : ℕ) → f (f a b) c ≡ f a (f b c)
    assoc law a b c = below a b c ∙ law (a % K.q) (b % K.q) (c % K.q) (code a) (code b) (code c) ∙ sym (under f reads a b c)

  -- what is not read as 0 has an inverse
  pub inverse_read : (a : ℕ) → a % K.q ≢ 0 → K.times a (inverse K a) ≡ 1
  inverse_read a some =
      let h = L.two_codes in
      inverse_works K a (inverse K (a % K.q)) (inverse_code K (a % K.q) (omega arith))
      (sym (left K.times L.times_reads a (inverse K (a % K.q))) ∙ L.times-inverse (a % K.q) (code a) some)

  abbrev pub lawful : Lawful
  lawful =
      record {
        ops = K;
        two_codes = L.two_codes;
        at_most = L.at_most;
        plus_left = left K.plus L.plus_reads;
        negative_of = λ a. sym (L.negative_reads a);
        times_left = left K.times L.times_reads;
        plus_code = L.plus_code;
        negative_code = L.negative_code;
        times_code = L.times_code;
        plus_comm = comm K.plus L.plus_reads L.plus_comm;
        plus_assoc = assoc K.plus L.plus_reads L.plus_assoc;
        times_comm = comm K.times L.times_reads L.times_comm;
        times_assoc = assoc K.times L.times_reads L.times_assoc;
        times-plus = λ a b c.
            under K.times L.times_reads K.plus L.plus_reads a b c
            ∙ L.times-plus (a % K.q) (b % K.q) (c % K.q) (code a) (code b) (code c)
            ∙ ap (λ x. K.plus x (K.times (a % K.q) (c % K.q))) (sym (L.times_reads a b))
            ∙ ap (λ x. K.plus (K.times a b) x) (sym (L.times_reads a c));
        plus-zero = λ a. sym (left K.plus L.plus_reads a 0) ∙ L.plus-zero (a % K.q) (code a);
        times-one = λ a. sym (left K.times L.times_reads a 1) ∙ L.times-one (a % K.q) (code a);
        plus-negative = λ a.
            ap (λ x. K.plus a x) (L.negative_reads a)
            ∙ sym (left K.plus L.plus_reads a (K.negative (a % K.q)))
            ∙ L.plus-negative (a % K.q) (code a);
        times-inverse = inverse_read;
      }
