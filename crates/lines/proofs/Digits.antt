-- Reading gives n exactly where the bytes are the decimal of n. Assumes nothing.
use Rattle.std.proofs.Common.{◌≡◌, ℕ, ◌+◌, ◌-◌, ◌*◌, ◌<◌, ◌≤◌, Bool, true, false, cond, ltb, leb, List, [], ◌∷◌, length, get_or, Some, None, decimal, Option, sym, refl, ap, ◌∙◌, subst, ⊎_elim, arith, rules}
use Rattle.std.specs.Int.{IsInRange}
use Rattle.std.proofs.lemmas.Bool.{ltb-true, leb-true, lt-ltb, le-leb, eq-eqb, ne_eqb, cases_eq, cond-true, cond-false}
use Rattle.std.proofs.lemmas.Str.Parse.{IsNumeralModel, numerals_by_fold, not_in_digits}
use Rattle.std.proofs.lemmas.Fmt.{digits_decimal, digits_value-decimal, decimal-digits_value, decimal_nonempty, first_decimal, decimal_digit}
use Rattle.lines.specs.Fields.{Whole}
use Rattle.std.proofs.lemmas.Option.{none-some}
use Rattle.lines.specs.Numbers.{read_on, number_of, Number}

some_same : (m n : ℕ) → ◌≡◌ {A = Option ℕ} (Some m) (Some n) → m ≡ n
some_same m n e = cc

-- digits and nothing else, and the number that they write after n
abbrev Plain : List ℕ → Type 0
Plain [] = Unit {0}
Plain (c ∷ cs) = IsInRange 48 57 c × Plain cs

abbrev writes : ℕ → List ℕ → ℕ
writes n [] = n
writes n (c ∷ cs) = writes (n * 10 + (c - 48)) cs

own : IsNumeralModel Plain (writes 0)
own = numerals_by_fold _ (search rules) writes (search rules)

grows : (n : ℕ) (cs : List ℕ) → n ≤ writes n cs
grows n [] = omega arith
grows n (c ∷ cs) = omega (arith, grows (n * 10 + (c - 48)) cs)

-- one byte of a reading
step : (a b l : Bool) (x : Option ℕ) (m : ℕ) → cond a (cond b (cond l x None) None) None ≡ Some m → (a ≡ true) × (b ≡ true) × (l ≡ true) × (x ≡ Some m)
step true true true x m e = (refl, refl, refl, e)
step true true false x m e = absurd (none-some m e)
step true false l x m e = absurd (none-some m e)
step false b l x m e = absurd (none-some m e)

read_plain : (n : ℕ) (cs : List ℕ) (m : ℕ) → n < 65536 → read_on n cs ≡ Some m → Plain cs × (writes n cs ≡ m) × (m < 65536)
read_plain n [] m h e = (tt, some_same n m e, omega (arith, some_same n m e))
read_plain n (c ∷ cs) m h e =
    let p = step (leb 48 c) (leb c 57) (ltb (n * 10 + (c - 48)) 65536) (read_on (n * 10 + (c - 48)) cs) m e in
    let q = read_plain (n * 10 + (c - 48)) cs m (ltb-true (n * 10 + (c - 48)) 65536 p.2) p.3 in
    (((leb-true 48 c p.0, leb-true c 57 p.1), q.0), q.1, q.2)

plain_read : (n : ℕ) (cs : List ℕ) → Plain cs → writes n cs < 65536 → read_on n cs ≡ Some (writes n cs)
plain_read n [] p h = refl
plain_read n (c ∷ cs) p h =
    rw (le-leb 48 c p.0.0, le-leb c 57 p.0.1, lt-ltb (n * 10 + (c - 48)) 65536 (omega (arith, grows (n * 10 + (c - 48)) cs)))
    (plain_read (n * 10 + (c - 48)) cs p.1 h)

-- the decimal of a number from its digits
plain_decimal : (bs : List ℕ) (n : ℕ) → 0 < length bs → (get_or bs 0 0 ≡ 48 → length bs ≡ 1) → read_on 0 bs ≡ Some n → (n < 65536) × (bs ≡ decimal n)
plain_decimal bs n some lead e =
    let p = read_plain 0 bs n (omega arith) e in
    (p.2, sym (decimal-digits_value own bs p.0 some lead (omega (arith, p.1, p.2))) ∙ ap decimal p.1)

pub number_reads : (bs : List ℕ) (n : ℕ) → number_of bs ≡ Some n → (n < 65536) × (bs ≡ decimal n)
number_reads [] n e = absurd (none-some n e)
number_reads (c ∷ []) n e = plain_decimal (c ∷ []) n (omega arith) (λ z. refl) e
number_reads (c ∷ d ∷ cs) n e =
    ⊎_elim
    (λ z. absurd (none-some n (sym (cond-true _ _ _ (eq-eqb c 48 z)) ∙ e)))
    (λ z. plain_decimal (c ∷ d ∷ cs) n (omega arith) (λ y. absurd (z y)) (sym (cond-false _ _ _ (ne_eqb c 48 z)) ∙ e))
    (cases_eq c 48)

-- no decimal begins with 0 but that of 0, which has one byte
lead_decimal : (n : ℕ) → n < 65536 → get_or (decimal n) 0 0 ≡ 48 → length (decimal n) ≡ 1
lead_decimal n h z =
    ⊎_elim
    (λ e. ap length (ap decimal e ∙ decimal_digit 0 (omega arith)))
    (λ e. absurd (omega (arith, first_decimal n (omega arith) (omega arith))))
    (cases_eq n 0)

open_number : (bs : List ℕ) → 0 < length bs → (get_or bs 0 0 ≡ 48 → length bs ≡ 1) → number_of bs ≡ read_on 0 bs
open_number [] some lead = absurd (omega arith)
open_number (c ∷ []) some lead = refl
open_number (c ∷ d ∷ cs) some lead = rw (ne_eqb c 48 (λ z. omega (arith, lead z)))

pub number_written : (bs : List ℕ) (n : ℕ) → n < 65536 → bs ≡ decimal n → number_of bs ≡ Some n
number_written bs n h e =
    let value = digits_value-decimal own n (omega arith) in
    ap number_of e ∙ open_number (decimal n) (decimal_nonempty n (omega arith)) (lead_decimal n h) ∙ plain_read 0 (decimal n) (digits_decimal own n (omega arith)) (omega arith) ∙ ap Some value

-- numbers by their bytes, as the program takes them
-- no byte of a decimal is a comma
pub decimal_whole : (n : ℕ) → n < 65536 → Whole 44 (decimal n)
decimal_whole n h = not_in_digits own (decimal n) 44 (digits_decimal own n (omega arith)) (λ i. omega (arith, i.0))

pub numbered : (bs : List ℕ) → Number bs (number_of bs)
numbered bs = record { reads = number_reads bs; written = number_written bs }

pub is_number : (bs : List ℕ) (r : Option ℕ) → r ≡ number_of bs → Number bs r
is_number bs r e = subst (Number bs) (sym e) (numbered bs)
