-- The octets are a field. Assumes nothing.
use Rattle.std.proofs.Common.{sym, ap, ◌∙◌, arith, mod-eq_of_lt, lit<, lit≤}
use Rattle.std.specs.Prelude.{ℕ, ◌-◌, ◌%◌, ◌<◌, bit_xor}
use Rattle.std.proofs.Math.Nat.{mod-mod}
use Rattle.std.specs.Int.Bits.{xor_assoc, xor_self, xor_zero_r}
use Rattle.std.proofs.lemmas.Nat.{xor_comm, xor_lt}
use Rattle.field.specs.Laws.{FieldLaws, Lawful}
use Rattle.field.specs.Octets.{octet_times, octets, power}
use Rattle.field.specs.Reciprocals.{inverse_works}
use Rattle.field.specs.LawsForAll.{lawful}
use Rattle.field.specs.Linear as linear
use Rattle.field.specs.OctetProducts.{code, times_comm, times_assoc, times-one, times_reads, times_code}
use Rattle.field.specs.OctetPowers.{power_code, log_of, times_completion}

xor_code : (a b : ℕ) → bit_xor (a % 256) (b % 256) < 256
xor_code a b = xor_lt 8 (a % 256) (b % 256) (code a) (code b)

pub octet_laws : FieldLaws octets
octet_laws =
    record {
      two_codes = lit< tt;
      at_most = lit≤ tt;
      plus_reads = λ a b. ap (λ x. bit_xor x (b % 256)) (sym (mod-mod a 256)) ∙ ap (λ x. bit_xor (a % 256 % 256) x) (sym (mod-mod b 256));
      negative_reads = λ a. sym (mod-mod a 256);
      times_reads = times_reads;
      plus_code = xor_code;
      negative_code = code;
      times_code = times_code;
      plus_comm = λ a b _ _. xor_comm (a % 256) (b % 256);
      plus_assoc = λ a b c _ _ _.
          ap (λ x. bit_xor x (c % 256)) (mod-eq_of_lt (xor_code a b))
          ∙ xor_assoc (a % 256) (b % 256) (c % 256)
          ∙ ap (λ x. bit_xor (a % 256) x) (sym (mod-eq_of_lt (xor_code b c)));
      times_comm = times_comm;
      times_assoc = times_assoc;
      times-plus = λ a b c _ hb hc.
          linear.times_right a (b % 256) (c % 256)
          ∙ ap (λ x. bit_xor x (octet_times a (c % 256))) (ap (octet_times a) (mod-eq_of_lt hb) ∙ sym (mod-eq_of_lt (times_code a b)))
          ∙ ap (λ x. bit_xor (octet_times a b % 256) x) (ap (octet_times a) (mod-eq_of_lt hc) ∙ sym (mod-eq_of_lt (times_code a c)));
      plus-zero = λ a h. xor_zero_r (a % 256) ∙ mod-eq_of_lt h;
      times-one = times-one;
      plus-negative = λ a h. ap (λ x. bit_xor (a % 256) x) (mod-mod a 256) ∙ xor_self (a % 256);
      times-inverse = λ a h some.
          let log = log_of a (omega arith) h in
          inverse_works octets a (power (255 - log.0)) (power_code (255 - log.0))
          (ap (λ x. octet_times x (power (255 - log.0))) (sym log.2) ∙ times_completion log.0 log.1);
    }

abbrev pub octet_field : Lawful
octet_field = lawful octets octet_laws
