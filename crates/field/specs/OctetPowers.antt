-- Powers of 2 in the octets, and the tables of them. Assumes nothing.
use Rattle.std.specs.Prelude.{◌≡◌, ℕ, zero, suc, ◌+◌, ◌-◌, ◌<◌, ◌≤◌, Bool, true, false, List, [], ◌∷◌, length, ◌==◌, nat_lt, slice_index, refl}
use Rattle.std.proofs.Common.{sym, ap, ◌∙◌, arith, add-zero, zero-add, suc-add, add-suc, le_of_suc-le-suc, one-add, lit<, eqb-true, ltb-true}
use Rattle.field.specs.Octets.{product, remainder, octet_times, power}
use Rattle.field.specs.Tables.{TableRules}
use Rattle.field.specs.Tested.{all_below, both, all_below_lem}
use Rattle.field.specs.OctetProducts.{times_comm, times_assoc, times-one, times_code}

pub power_code : (k : ℕ) → power k < 256
unfolding power
power_code zero = lit< tt
power_code (suc k) = times_code 2 (power k)

pub times_power : (i j : ℕ) → octet_times (power i) (power j) ≡ power (i + j)
unfolding power
times_power zero j = times_comm 1 (power j) (lit< tt) (power_code j) ∙ times-one (power j) (power_code j) ∙ ap power (sym (zero-add j))
times_power (suc i) j = times_assoc 2 (power i) (power j) (lit< tt) (power_code i) (power_code j) ∙ ap (octet_times 2) (times_power i j) ∙ ap power (sym (suc-add i j))

-- the first n powers from x on
powers_from : ℕ → ℕ → List ℕ
powers_from zero x = []
powers_from (suc n) x = x ∷ powers_from n (octet_times 2 x)

contains : ℕ → List ℕ → Bool
contains a [] = false
contains a (x ∷ xs) = elim (x == a) [ true ↦ true | false ↦ contains a xs ]

exponent : (n j a : ℕ) → contains a (powers_from n (power j)) ≡ true → (k : ℕ) × (k < j + n) × (power k ≡ a)
unfolding contains powers_from power
exponent zero j a e = let z : ◌≡◌ {A = ℕ} 0 1 = cc in absurd (omega arith)
exponent (suc n) j a e =
    (elim (power j == a) as (λ t. (power j == a) ≡ t → elim t [ true ↦ true | false ↦ contains a (powers_from n (octet_times 2 (power j))) ] ≡ true → (k : ℕ) × (k < j + suc n) × (power k ≡ a)) [
      | true ↦ λ p e. (j, omega arith, eqb-true (power j) a p)
      | false ↦ λ p e. let later = exponent n (suc j) a e in (later.0, omega (arith, later.1), later.2)
    ])
    refl
    e

contains_all : List ℕ → Bool
contains_all xs = all_below (λ a. contains (suc a) xs) 255

all_powers : contains_all (powers_from 255 1) ≡ true
unfolding contains_all contains powers_from octet_times product remainder
all_powers = refl

-- every code but 0 is a power of 2
pub log_of : (a : ℕ) → 0 < a → a < 256 → (k : ℕ) × (k < 255) × (power k ≡ a)
unfolding contains_all power
log_of (suc a) some small = exponent 255 0 (suc a) (all_below_lem (λ a. contains (suc a) (powers_from 255 1)) 255 all_powers a (omega arith))
log_of zero some small = absurd (omega arith)

pub power_255 : power 255 ≡ 1
unfolding power octet_times product remainder
power_255 = refl

-- a power of 2 times the one that completes 255 is 1
pub times_completion : (k : ℕ) → k < 255 → octet_times (power k) (power (255 - k)) ≡ 1
times_completion k h = let e : k + (255 - k) ≡ 255 = omega arith in times_power k (255 - k) ∙ ap power e ∙ power_255

-- the test of the tables: the first lists the powers; each entry of the second is below 255, and leads to its place
unfoldable pub doubles : ℕ → List ℕ → Bool
doubles x [] = true
doubles x (e ∷ es) = elim (e == x) [ true ↦ doubles (octet_times 2 x) es | false ↦ false ]

unfoldable pub leads : List ℕ → ℕ → List ℕ → Bool
leads es a [] = true
leads es a (l ∷ ls) = elim (nat_lt l 255) [ true ↦ elim (slice_index es l == a) [ true ↦ leads es (suc a) ls | false ↦ false ] | false ↦ false ]

-- place 0 of the second leads nowhere
unfoldable pub tables_pass : List ℕ → List ℕ → Bool
tables_pass es [] = false
tables_pass es (unused ∷ ls) = elim (nat_lt unused 255) [ true ↦ elim (doubles 1 es) [ true ↦ leads es 1 ls | false ↦ false ] | false ↦ false ]

doubles_at : (j : ℕ) (es : List ℕ) → doubles (power j) es ≡ true → (k : ℕ) → k < length es → slice_index es k ≡ power (j + k)
unfolding doubles power
doubles_at j [] e k h = absurd (omega arith)
doubles_at j (x ∷ es) e zero h = eqb-true x (power j) (both (x == power j) (doubles (octet_times 2 (power j)) es) e).0 ∙ ap power (sym (add-zero j))
doubles_at j (x ∷ es) e (suc k) h =
    doubles_at (suc j) es (both (x == power j) (doubles (octet_times 2 (power j)) es) e).1 k (le_of_suc-le-suc h) ∙ ap power (suc-add j k ∙ sym (add-suc j k))

leads_at : (es : List ℕ) (a : ℕ) (ls : List ℕ) → leads es a ls ≡ true → (k : ℕ) → k < length ls → (slice_index ls k < 255) × (slice_index es (slice_index ls k) ≡ a + k)
unfolding leads
leads_at es a [] e k h = absurd (omega arith)
leads_at es a (l ∷ ls) e k h =
    let below = both (nat_lt l 255) (elim (slice_index es l == a) [ true ↦ leads es (suc a) ls | false ↦ false ]) e in
    let here = both (slice_index es l == a) (leads es (suc a) ls) below.1 in
    elim k as (λ k. k < length (l ∷ ls) → (slice_index (l ∷ ls) k < 255) × (slice_index es (slice_index (l ∷ ls) k) ≡ a + k)) [
      | zero ↦ λ h. (ltb-true l 255 below.0, eqb-true (slice_index es l) a here.0 ∙ sym (add-zero a))
      | suc k ↦ λ h. let later = leads_at es (suc a) ls here.1 k (le_of_suc-le-suc h) in (later.0, later.1 ∙ suc-add a k ∙ sym (add-suc a k))
    ]
    h

-- tables that pass keep their rules
pub table_rules : (es ls : List ℕ) → length es ≡ 510 → length ls ≡ 256 → tables_pass es ls ≡ true → TableRules es ls
unfolding tables_pass power
table_rules es [] long-es long-ls e = absurd (omega arith)
table_rules es (unused ∷ ls) long-es long-ls e =
    let first = both (nat_lt unused 255) (elim (doubles 1 es) [ true ↦ leads es 1 ls | false ↦ false ]) e in
    let passed = both (doubles 1 es) (leads es 1 ls) first.1 in
    record {
      power_count = long-es;
      log_count = long-ls;
      power_at = λ k h. doubles_at 0 es passed.0 k (omega arith) ∙ ap power (zero-add k);
      log_below = λ a. elim a as (λ a. a ≤ 255 → slice_index (unused ∷ ls) a < 255) [
        | zero ↦ λ most. ltb-true unused 255 first.0
        | suc k ↦ λ most. (leads_at es 1 ls passed.1 k (omega arith)).0
      ];
      power_of_log = λ a. elim a as (λ a. 1 ≤ a → a ≤ 255 → slice_index es (slice_index (unused ∷ ls) a) ≡ a) [
        | zero ↦ λ some most. absurd (omega arith)
        | suc k ↦ λ some most. (leads_at es 1 ls passed.1 k (omega arith)).1 ∙ one-add k
      ];
    }
