-- Terms read off words, one by one. Assumes nothing.
use Rattle.std.proofs.Common.{◌≡◌, ℕ, ◌+◌, ◌*◌, ◌/◌, ◌<◌, ◌≤◌, min, List, ◌∷◌, ◌++◌, length, take, drop, slice_index_or, slice_set, Some, None, Ok, Err, Result, inl, inr, refl, sym, ap, subst, ◌∙◌, true≢false, arith}
use Rattle.std.specs.Result.{IsOk, IfOk, is_ok, result_ok}
use Rattle.std.proofs.lemmas.List.{length-set, length-take-le, length-append, get_or-take, get_or-set_same, get_or-set_other, take-append-drop}
use Rattle.std.proofs.lemmas.Bool.{cases_eq}
use Rattle.std.proofs.lemmas.Option.{none-some}
use Rattle.frame.specs.declared.terms.Term.{Term}
use Rattle.frame.specs.declared.frames.Frame.{Frame}
use Rattle.frame.specs.declared.refusals.Refusal.{Refusal}
use Rattle.frame.specs.declared.checks.TheConstants.{MOST_TERMS}
use Rattle.frame.specs.Frames.{no_term, Decides}
use Rattle.frame.specs.Refusals.{numbered_as, numbered, refusal_only}
use Rattle.frame.specs.Parts.{sum_of, FrameOf}
use Rattle.rows.specs.declared.sizes.TheConstants.{MOST_ROWS}
use Rattle.rows.specs.Systems.{Row, System}
use Rattle.rows.specs.Ledgers.{row_of, take_answer}
use Rattle.solverspeed.specs.Hours.{terms_words, row_words, FromFrame}
use Rattle.solverspeed.specs.Steps.{NoRowTaken}
use Rattle.solverspeed.proofs.Words.{pair_at, terms_words-read, terms_words-length, row_words-same}

-- the first n terms are read
pub record TermsRead (n : ℕ) (ws : List ℕ) (ts : List Term) : Type 0 where
  pub long : length ts ≡ 16
  pub each : (k : ℕ) → k < n → slice_index_or ts k no_term ≡ pair_at ws k

pub one_more : (n : ℕ) (ws : List ℕ) (ts : List Term) → n < 16 → TermsRead n ws ts → TermsRead (n + 1) ws (slice_set ts n (pair_at ws n))
one_more n ws ts h read =
    record {
      long = length-set ts n (pair_at ws n) ∙ read.long;
      each = λ k l.
          elim (cases_eq k n) [
            | inl same ↦ rw (same, get_or-set_same ts n (pair_at ws n) no_term (omega (arith, h, read.long))) refl
            | inr other ↦ rw (get_or-set_other ts n k (pair_at ws n) no_term other) (read.each k (omega (arith, l, other)))
          ];
    }

pub all_read : (count n : ℕ) (ws : List ℕ) (ts : List Term) → count ≡ min 16 (length ws / 2) → TermsRead count ws ts → length ws ≡ 2 * n → n ≤ 16 → terms_words (take n ts) ≡ ws
all_read count n ws ts counted read e few =
    let same : n ≡ count = omega (arith, counted, e, few) in
    let long : length (take n ts) ≡ n = length-take-le n ts (omega (arith, few, read.long)) in
    terms_words-read (take n ts) ws (e ∙ ap (λ m. 2 * m) (sym long)) (λ k h. let l : k < n = omega (arith, h, long) in get_or-take n ts k no_term l ∙ read.each k (omega (arith, l, same)))

-- what words begin with
module _ (words ws : List ℕ) (count sum : ℕ) (is : words ≡ count ∷ sum ∷ ws) where
  pub too_many : MOST_TERMS < count → (r : Row) (rest : List ℕ) → words ≡ row_words r rest → ¬ FromFrame r
  too_many many r rest e frame = let same : count ≡ length r.terms = cc in omega (arith, many, same, frame.few)

  pub too_short : length ws < 2 * count → (r : Row) (rest : List ℕ) → ¬ (words ≡ row_words r rest)
  too_short short r rest e =
      let same : count ≡ length r.terms = cc in
      let behind : ws ≡ terms_words r.terms ++ rest = cc in
      let long = ap length behind ∙ length-append (terms_words r.terms) rest in
      let twice = terms_words-length r.terms in
      omega (arith, short, same, long, twice)

-- a refused call's result has no value
no_value : {X Y : Type 0} (answer : Result X Refusal) (f : X → Y) → result_ok answer ≡ None → ¬ IsOk (numbered_as f answer)
no_value (Ok x) f none ok = absurd (none-some x (sym none))
no_value (Err r) f none ok = absurd (true≢false (sym ok))

-- what a call promises of a value holds of the one that it gives
pub of_value : {X : Type 0} (answer : Result X Refusal) (x : X) (P : X → Type 0) → result_ok answer ≡ Some x → IfOk answer P → P x
of_value (Ok y) x P some holds = let same : y ≡ x = cc in subst P same holds
of_value (Err r) x P some holds = absurd (none-some x some)

-- these terms are read from what words begin with
pub record Begun (words ws : List ℕ) (count sum : ℕ) (ts : List Term) : Type 0 where
  pub is : words ≡ count ∷ sum ∷ ws
  pub long : length ts ≡ count
  pub read : terms_words ts ≡ take (2 * count) ws

pub begun : {words after ws pairs : List ℕ} {count said sum : ℕ} (terms : List Term) → words ≡ said ∷ after → after ≡ sum ∷ ws → count ≡ said → count ≤ 16
    → pairs ≡ take (2 * count) ws → length pairs ≡ 2 * count → ((n : ℕ) → length pairs ≡ 2 * n → n ≤ 16 → terms_words (take n terms) ≡ pairs) → Begun words ws count sum (take count terms)
begun {words} {after} {ws} {pairs} {count} {said} {sum} terms first second counted few front pairs_long read =
    record {
      is = first ∙ ap (λ us. said ∷ us) second ∙ ap (λ n. n ∷ sum ∷ ws) (sym counted);
      long = let twice = terms_words-length (take count terms) in omega (arith, pairs_long, twice, ap length (read count pairs_long few));
      read = read count pairs_long few ∙ front;
    }

module _ {words ws : List ℕ} {count sum : ℕ} {ts : List Term} (b : Begun words ws count sum ts) where
  abbrev pub row : Row
  row = record { sum = sum; terms = ts }

  begins : words ≡ row_words row (drop (2 * count) ws)
  begins = b.is ∙ ap (λ n. n ∷ sum ∷ ws) (sym b.long) ∙ ap (λ us. length ts ∷ sum ∷ us) (sym (ap (λ us. us ++ drop (2 * count) ws) b.read ∙ take-append-drop (2 * count) ws))

  only : (r : Row) (rest : List ℕ) → words ≡ row_words r rest → r ≡ row
  only r rest e = (row_words-same r row rest (drop (2 * count) ws) (sym e ∙ begins)).0

  pub no_frame : (S : System) (answer : Result Frame Refusal) → result_ok answer ≡ None → Decides ts (refusal_only answer) → NoRowTaken words S
  no_frame S answer none decides r rest e frame =
      let ok = decides.complete (subst FromFrame (only r rest e) frame) in
      λ taken. no_value answer (λ _. tt) none (ap is_ok ok)

  module _ (S : System) (f : Frame) (of : FrameOf sum ts f) (answer : Result ℕ Refusal) (answers : numbered answer ≡ take_answer S MOST_ROWS (row_of f)) where
    same : row ≡ row_of f
    same = ap (λ n. record { sum = n; terms = ts }) (sym of.sums) ∙ ap (λ us. record { sum = sum_of f; terms = us }) (sym of.holds)

    pub no_room : result_ok answer ≡ None → NoRowTaken words S
    no_room none r rest e frame ok = no_value answer (λ n. n) none (subst IsOk (sym answers) (subst (λ s. IsOk (take_answer S MOST_ROWS s)) (only r rest e ∙ same) ok))
