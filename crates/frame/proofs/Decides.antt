-- The check of terms decides whether they make a frame, and refuses in order. Assumes nothing.
use Rattle.std.proofs.Common.{◌≡◌, ℕ, zero, suc, ◌+◌, ◌<◌, ◌≤◌, Bool, true, false, cond, eqb, ltb, leb, ◌||◌, List, [], ◌∷◌, length, Some, None, Ok, Err, Option, Result, sym, refl, subst, ◌∙◌, inl, inr, ◌⊎◌, le_of_suc-le-suc, not-suc-le-zero, eq-or-lt_of_le, true≢false, arith}
use Rattle.std.specs.Option.{MatchOption}
use Rattle.std.specs.Result.{IsOk}
use Rattle.std.proofs.lemmas.Bool.{cases_lt, ltb-true, ltb-false, leb-true, leb-false, eqb-true, eqb-false, eq-eqb}
use Rattle.frame.specs.declared.terms.Term.{Term}
use Rattle.frame.specs.declared.checks.TheConstants.{MOST_TERMS, MINUTES}
use Rattle.frame.specs.Refusals.{RefusalCase}
use Rattle.frame.specs.Orders.{First, Nowhere, AtStart, KeepsOrder, when}
use Rattle.frame.proofs.Orders.{Finds, Passes, accepted, refused_first, finds_when, finds_position, finds_same}
use Rattle.frame.specs.Frames.{no_term, minute_at, weight_at, first_minute, first_weight, check, WrongCount, NotRising, WrongMinute, WrongWeight, frame_order, FrameTerms, Decides}

-- a term's minute is over 63, or below `low` if it is the first, and not over the one before if it is not
abbrev lowest : ℕ → List Term → ℕ → ℕ
lowest low ts zero = low
lowest low ts (suc k) = suc (minute_at ts k)

abbrev WrongFrom : ℕ → List Term → ℕ → Type 0
WrongFrom low ts k = (k < length ts) × ((MINUTES ≤ minute_at ts k) ⊎ (minute_at ts k < lowest low ts k))

-- counted from `at`
abbrev Counted : ℕ → (ℕ → Type 0) → Option ℕ → Type 0
Counted at P found = MatchOption found (Nowhere P) (λ place. (k : ℕ) × (place ≡ at + k) × First P k)

-- the walk goes on behind a term whose minute is right
module _ (at low : ℕ) (t : Term) (ts : List Term) where
  here : WrongFrom low (t ∷ ts) 0 → Counted at (WrongFrom low (t ∷ ts)) (Some at)
  here wrong = (0, omega arith, record { there = wrong; none_before = λ k h. absurd (not-suc-le-zero h) })

  later : (k : ℕ) → WrongFrom (suc t.minute) ts k → WrongFrom low (t ∷ ts) (suc k)
  later zero w = (let h = w.0 in omega arith, w.1)
  later (suc k) w = (let h = w.0 in omega arith, w.1)

  sooner : (k : ℕ) → WrongFrom low (t ∷ ts) (suc k) → WrongFrom (suc t.minute) ts k
  sooner zero w = (le_of_suc-le-suc w.0, w.1)
  sooner (suc k) w = (le_of_suc-le-suc w.0, w.1)

  right_here : t.minute < MINUTES → low ≤ t.minute → ¬ WrongFrom low (t ∷ ts) 0
  right_here below over w = elim w.1 [ inl h ↦ omega arith | inr h ↦ omega arith ]

  walk_on : t.minute < MINUTES → low ≤ t.minute → (found : Option ℕ) → Counted (suc at) (WrongFrom (suc t.minute) ts) found → Counted at (WrongFrom low (t ∷ ts)) found
  walk_on below over None none = nowhere
    where
      nowhere : Nowhere (WrongFrom low (t ∷ ts))
      nowhere zero w = right_here below over w
      nowhere (suc k) w = none k (sooner k w)
  walk_on below over (Some place) found = (suc found.0, omega (arith, found.1), record { there = later found.0 found.2.there; none_before = before })
    where
      before : (k : ℕ) → k < suc found.0 → ¬ WrongFrom low (t ∷ ts) k
      before zero h w = right_here below over w
      before (suc k) h w = found.2.none_before k (le_of_suc-le-suc h) (sooner k w)

  walk : (a b : Bool) → ltb t.minute MINUTES ≡ a → leb low t.minute ≡ b → (found : Option ℕ) → Counted (suc at) (WrongFrom (suc t.minute) ts) found → Counted at (WrongFrom low (t ∷ ts)) (cond a (cond b found (Some at)) (Some at))
  walk true true e f found c = walk_on (ltb-true t.minute MINUTES e) (leb-true low t.minute f) found c
  walk true false e f found c = here (omega arith, inr (leb-false low t.minute f))
  walk false b e f found c = here (omega arith, inl (ltb-false t.minute MINUTES e))

minutes_walked : (at low : ℕ) (ts : List Term) → Counted at (WrongFrom low ts) (first_minute at low ts)
minutes_walked at low [] = λ k w. absurd (not-suc-le-zero w.0)
minutes_walked at low (t ∷ ts) = walk at low t ts (ltb t.minute MINUTES) (leb low t.minute) refl refl (first_minute (suc at) (suc t.minute) ts) (minutes_walked (suc at) (suc t.minute) ts)

-- from the start, where no minute is too low to be the first
module _ (ts : List Term) where
  wrong_minute : (k : ℕ) → WrongFrom 0 ts k → WrongMinute ts k
  wrong_minute zero w = (w.0, elim w.1 [ inl h ↦ inl h | inr h ↦ absurd (not-suc-le-zero h) ])
  wrong_minute (suc k) w = (w.0, elim w.1 [ inl h ↦ inl h | inr h ↦ inr (le_of_suc-le-suc h) ])

  wrong_from : (k : ℕ) → WrongMinute ts k → WrongFrom 0 ts k
  wrong_from zero w = (w.0, elim w.1 [ inl h ↦ inl h | inr h ↦ absurd h ])
  wrong_from (suc k) w = (w.0, elim w.1 [ inl h ↦ inl h | inr h ↦ inr (omega arith) ])

  from_start : (found : Option ℕ) → Counted 0 (WrongFrom 0 ts) found → Finds (WrongMinute ts) found
  from_start None none = finds_same (WrongFrom 0 ts) (WrongMinute ts) wrong_minute wrong_from None none
  from_start (Some place) found =
      let same : found.0 ≡ place = omega (arith, found.1) in
      finds_same (WrongFrom 0 ts) (WrongMinute ts) wrong_minute wrong_from (Some place) (subst (First (WrongFrom 0 ts)) same found.2)

  finds_minute : Finds (WrongMinute ts) (first_minute 0 0 ts)
  finds_minute = from_start (first_minute 0 0 ts) (minutes_walked 0 0 ts)

  finds_weight : Finds (WrongWeight ts) (first_weight 0 ts)
  finds_weight =
      finds_same (Passes (λ (t : Term). eqb t.weight 0) no_term ts) (WrongWeight ts)
      (λ k p. (p.0, eqb-true (weight_at ts k) 0 p.1))
      (λ k w. (w.0, eq-eqb (weight_at ts k) 0 w.1))
      (first_weight 0 ts)
      (finds_position (λ (t : Term). eqb t.weight 0) no_term ts)

  -- the number of terms, as it is tested
  wrong_count : (a b : Bool) → eqb (length ts) 0 ≡ a → ltb MOST_TERMS (length ts) ≡ b → a || b ≡ true → WrongCount ts
  wrong_count true b e f h = inl (eqb-true (length ts) 0 e)
  wrong_count false true e f h = inr (ltb-true MOST_TERMS (length ts) f)
  wrong_count false false e f h = absurd (true≢false (sym h))

  right_count : (a b : Bool) → eqb (length ts) 0 ≡ a → ltb MOST_TERMS (length ts) ≡ b → a || b ≡ false → ¬ WrongCount ts
  right_count true b e f h w = true≢false h
  right_count false true e f h w = true≢false h
  right_count false false e f h w =
      let some = eqb-false (length ts) 0 e in
      let few = ltb-false MOST_TERMS (length ts) f in
      elim w [ inl none ↦ some none | inr many ↦ omega arith ]

  finds_count : Finds (AtStart (WrongCount ts)) (when (eqb (length ts) 0 || ltb MOST_TERMS (length ts)))
  finds_count =
      finds_when (WrongCount ts) (eqb (length ts) 0 || ltb MOST_TERMS (length ts))
      (wrong_count (eqb (length ts) 0) (ltb MOST_TERMS (length ts)) refl refl)
      (right_count (eqb (length ts) 0) (ltb MOST_TERMS (length ts)) refl refl)

  pub check_in_order : KeepsOrder (frame_order ts) (check ts)
  check_in_order =
      refused_first 10 _ _ _
      (refused_first 11 _ _ _ (refused_first 12 _ _ _ (accepted tt) (first_weight 0 ts) finds_weight) (first_minute 0 0 ts) finds_minute)
      _ finds_count

-- where no minute is wrong they rise
rises : (ts : List Term) → Nowhere (WrongMinute ts) → (j k : ℕ) → j < k → k < length ts → minute_at ts j < minute_at ts k
rises ts none j zero lt h = absurd (not-suc-le-zero lt)
rises ts none j (suc k) lt h =
    elim (cases_lt (minute_at ts k) (minute_at ts (suc k))) [
      | inr down ↦ absurd (none (suc k) (h, inr down))
      | inl up ↦
          elim (eq-or-lt_of_le (le_of_suc-le-suc lt)) [
            | inl same ↦ subst (λ i. minute_at ts i < minute_at ts (suc k)) (sym same) up
            | inr less ↦ let before = rises ts none j k less (omega arith) in omega arith
          ]
    ]

-- and where they rise none fails to
no_fall : (ts : List Term) → FrameTerms ts → (k : ℕ) → k < length ts → ¬ NotRising ts k
no_fall ts f zero h none = none
no_fall ts f (suc k) h down = let up = f.rising k (suc k) (omega arith) h in omega arith

is_ok : (r : Result (Unit {0}) RefusalCase) → IsOk r → r ≡ Ok tt
is_ok (Ok u) e = refl
is_ok (Err r) e = absurd (true≢false (sym e))

module _ (ts : List Term) where
  pub makes_frame : ((k : ℕ) → k < length ts → weight_at ts k < 65536) → check ts ≡ Ok tt → FrameTerms ts
  makes_frame words e =
      let none = (check_in_order ts).accepts.0 (subst IsOk (sym e) refl) in
      record {
        some = elim (cases_lt 0 (length ts)) [ inl some ↦ some | inr no_terms ↦ absurd (none.0 0 (refl, inl (omega arith))) ];
        few = elim (cases_lt MOST_TERMS (length ts)) [ inl many ↦ absurd (none.0 0 (refl, inr many)) | inr few ↦ few ];
        below = λ k h. elim (cases_lt (minute_at ts k) MINUTES) [ inl below ↦ below | inr over ↦ absurd (none.1.0 k (h, inl over)) ];
        rising = rises ts none.1.0;
        weighted = λ k h z. none.1.1.0 k (h, z);
        words = words;
      }

  pub frame_checks : FrameTerms ts → check ts ≡ Ok tt
  frame_checks f =
      is_ok (check ts) ((check_in_order ts).accepts.1 (
        λ k at. elim at.1 [ inl none ↦ let some = f.some in omega arith | inr many ↦ let few = f.few in omega arith ],
        (
          λ k w. elim w.1 [ inl over ↦ let below = f.below k w.0 in omega arith | inr down ↦ no_fall ts f k w.0 down ],
          (λ k w. f.weighted k w.0 w.1, tt),
        ),
      ))

  pub in_order : (answer : Result (Unit {0}) RefusalCase) → answer ≡ check ts → KeepsOrder (frame_order ts) answer
  in_order answer is = subst (KeepsOrder (frame_order ts)) (sym is) (check_in_order ts)

  pub decided : (answer : Result (Unit {0}) RefusalCase) → answer ≡ check ts → (answer ≡ Ok tt → (k : ℕ) → k < length ts → weight_at ts k < 65536) → Decides ts answer
  decided answer is words =
      record {
        sound = λ e. makes_frame (words e) (sym is ∙ e);
        complete = λ f. is ∙ frame_checks f;
      }
