-- Each frame has one line, and reading takes that line, and no other, to that frame. Assumes nothing.
use Rattle.std.proofs.Common.{◌≡◌, ℕ, zero, suc, ◌+◌, ◌*◌, ◌%◌, ◌<◌, ◌≤◌, Bool, true, false, cond, eqb, List, [], ◌∷◌, ◌++◌, map, length, drop, Some, None, Ok, Err, decimal, Option, Result, sym, refl, ap, ◌∙◌, subst, le_of_suc-le-suc, not-suc-le-zero, arith, length-append}
use Rattle.std.specs.Option.{ok_or}
use Rattle.std.proofs.lemmas.Fmt.{length-decimal-le}
use Rattle.std.proofs.lemmas.List.{length-map}
use Rattle.std.proofs.lemmas.Bool.{eqb-true, eq-eqb, cond-true}
use Rattle.frame.specs.declared.terms.Term.{Term}
use Rattle.frame.specs.Refusals.{RefusalCase}
use Rattle.frame.specs.Frames.{minute_at, weight_at, check}
use Rattle.frame.proofs.Apart.{err_ok}
use Rattle.frame.proofs.Decides.{makes_frame, frame_checks}
use Rattle.frame.specs.declared.frames.Frame.{Frame}
use Rattle.frame.specs.Parts.{sum_of, terms_of}
use Rattle.lines.specs.Answers.{answer_of, Echoes}
use Rattle.lines.specs.Writing.{OneLine}
use Rattle.lines.specs.declared.kinds.LineKind.{LineKind}
use Rattle.lines.specs.declared.kinds.LineKind.TheVariants as kinds
use Rattle.lines.specs.Fields.{AllWhole, parted, join, Field, placed, fields_of}
use Rattle.lines.specs.Frames.{flat, line_of, IsFrame}
use Rattle.lines.specs.Numbers.{number_of}
use Rattle.lines.specs.Kinds.{line_kind}
use Rattle.lines.specs.Reading.{Content, content, map_ok, and_then, numbers, pairs, checked, frame_of, read_fields, frame_only, read, ReadsFrame}
use Rattle.lines.proofs.Begins.{begins, written_kind, written_rest}
use Rattle.lines.proofs.Cuts.{length-placed}
use Rattle.lines.proofs.Digits.{number_reads, number_written, decimal_whole}
use Rattle.lines.proofs.Exits.{pairs-flat}

-- each number is a word
abbrev Words : List ℕ → Type 0
Words [] = Unit {0}
Words (n ∷ ns) = (n < 65536) × Words ns

-- numbers as fields, and back
written_numbers : (ns : List ℕ) (at : ℕ) → Words ns → numbers (placed at (map decimal ns)) ≡ Ok ns
written_numbers [] at w = refl
written_numbers (n ∷ ns) at w =
    rw (number_written (decimal n) n w.0 refl, written_numbers ns (suc (at + length (decimal n))) w.1)

one_number : (o : Option ℕ) (e : RefusalCase) (rest : Result (List ℕ) RefusalCase) (ns : List ℕ) → and_then (ok_or o e) (λ n. map_ok (λ ms. n ∷ ms) rest) ≡ Ok ns → (n : ℕ) × (ms : List ℕ) × (o ≡ Some n) × (rest ≡ Ok ms) × (ns ≡ n ∷ ms)
one_number None e rest ns h = absurd (err_ok _ _ h)
one_number (Some n) e (Err d) ns h = absurd (err_ok _ _ h)
one_number (Some n) e (Ok ms) ns h = (n, ms, refl, refl, cc)

numbers_read : (ps : List (List ℕ)) (at : ℕ) (ns : List ℕ) → numbers (placed at ps) ≡ Ok ns → (ps ≡ map decimal ns) × Words ns
numbers_read [] at ns h = let e : ns ≡ [] = cc in (ap (map decimal) (sym e), subst Words (sym e) tt)
numbers_read (p ∷ ps) at ns h =
    let g = one_number (number_of p) _ _ ns h in
    let is = number_reads p g.0 g.2 in
    let q = numbers_read ps (suc (at + length p)) g.1 g.3 in (
      (λ i. is.1 i ∷ q.0 i) ∙ ap (map decimal) (sym g.4),
      subst Words (sym g.4) (is.0, q.1),
    )

-- terms as numbers, and back
flat-pairs : (ns : List ℕ) → length ns % 2 ≡ 0 → flat (pairs ns) ≡ ns
flat-pairs [] e = refl
flat-pairs (m ∷ []) e = absurd (omega arith)
flat-pairs (m ∷ w ∷ ns) e = ap (λ l. m ∷ w ∷ l) (flat-pairs ns (omega arith))

length-flat : (ts : List Term) → length (flat ts) ≡ 2 * length ts
length-flat [] = refl
length-flat (t ∷ ts) = omega (arith, length-flat ts)

terms_words : (ts : List Term) → ((k : ℕ) → k < length ts → minute_at ts k < 64) → ((k : ℕ) → k < length ts → weight_at ts k < 65536) → Words (flat ts)
terms_words [] below words = tt
terms_words (t ∷ ts) below words =
    (omega (arith, below 0 (omega arith)), (words 0 (omega arith), terms_words ts (λ k h. below (suc k) (omega arith)) (λ k h. words (suc k) (omega arith))))

words_weights : (ts : List Term) → Words (flat ts) → (k : ℕ) → k < length ts → weight_at ts k < 65536
words_weights [] w k h = absurd (not-suc-le-zero h)
words_weights (t ∷ ts) w zero h = w.1.0
words_weights (t ∷ ts) w (suc k) h = words_weights ts w.1.1 k (le_of_suc-le-suc h)

-- the parts of a frame's line
all_whole : (ns : List ℕ) → Words ns → AllWhole 44 (map decimal ns)
all_whole [] w = tt
all_whole (n ∷ ns) w = (decimal_whole n w.0, all_whole ns w.1)

frame_words : (s : ℕ) (ts : List Term) → IsFrame s ts → Words (s ∷ flat ts)
frame_words s ts f = (f.word, terms_words ts f.terms.below f.terms.words)

-- a term takes at most nine bytes
terms_short : (ts : List Term) → ((k : ℕ) → k < length ts → minute_at ts k < 64) → ((k : ℕ) → k < length ts → weight_at ts k < 65536) → length (parted 44 (map decimal (flat ts))) ≤ 9 * length ts
terms_short [] below words = omega arith
terms_short (t ∷ ts) below words =
    let m = length-decimal-le 2 t.minute (omega arith) (omega (arith, below 0 (omega arith))) (omega (arith, below 0 (omega arith))) in
    let w = length-decimal-le 5 t.weight (omega arith) (omega (arith, words 0 (omega arith))) (omega (arith, words 0 (omega arith))) in
    let rest = terms_short ts (λ k h. below (suc k) (omega arith)) (λ k h. words (suc k) (omega arith)) in
    simp length-append (omega arith)

pub line_short : (s : ℕ) (ts : List Term) → IsFrame s ts → length (line_of s ts) ≤ 256
line_short s ts f =
    let sum = length-decimal-le 5 s (omega arith) (omega (arith, f.word)) (omega (arith, f.word)) in
    let rest = terms_short ts f.terms.below f.terms.words in
    simp length-append (omega (arith, f.terms.few))

-- what a reading that gives something has passed
pub opened : {X E : Type 0} (b : Bool) (x : Result X E) (e : E) (c : X) → cond b x (Err e) ≡ Ok c → (b ≡ true) × (x ≡ Ok c)
opened true x e c h = (refl, h)
opened false x e c h = absurd (err_ok _ _ h)

kind_read : (k : Option LineKind) (fs : List Field) (c : Content) → frame_only k fs ≡ Ok c → (k ≡ Some kinds.Frame) × (read_fields fs ≡ Ok c)
kind_read None fs c h = absurd (err_ok _ _ h)
kind_read (Some kinds.Open) fs c h = absurd (err_ok _ _ h)
kind_read (Some kinds.Frame) fs c h = (refl, h)

numbers_passed : (r : Result (List ℕ) RefusalCase) (c : Content) → and_then r frame_of ≡ Ok c → (ns : List ℕ) × (r ≡ Ok ns) × (frame_of ns ≡ Ok c)
numbers_passed (Ok ns) c h = (ns, refl, h)
numbers_passed (Err e) c h = absurd (err_ok _ _ h)

check_passed : (r : Result (Unit {0}) RefusalCase) (x c : Content) → map_ok (λ _. x) r ≡ Ok c → (r ≡ Ok tt) × (x ≡ c)
check_passed (Ok u) x c h = (refl, cc)
check_passed (Err e) x c h = absurd (err_ok _ _ h)

frame_passed : (ns : List ℕ) (s : ℕ) (ts : List Term) → frame_of ns ≡ Ok (content s ts) → (ms : List ℕ) × (ns ≡ s ∷ ms) × (pairs ms ≡ ts) × (check (pairs ms) ≡ Ok tt)
frame_passed [] s ts h = absurd (err_ok _ _ h)
frame_passed (n ∷ ms) s ts h =
    let p = check_passed (check (pairs ms)) (content n (pairs ms)) (content s ts) h in
    (ms, ap (λ c. c.sum ∷ ms) p.1, ap (λ c. c.terms) p.1, p.0)

-- the parts behind the letter, and back
fields_only : (ps : List (List ℕ)) (at s : ℕ) (ts : List Term) → read_fields (placed at ps) ≡ Ok (content s ts) → IsFrame s ts × (ps ≡ map decimal (s ∷ flat ts))
fields_only ps at s ts h =
    let odd = opened (eqb (length (placed at ps) % 2) 1) _ _ _ h in
    let got = numbers_passed (numbers (placed at ps)) _ odd.1 in
    let ns = got.0 in
    let is = numbers_read ps at ns got.1 in
    let frame = frame_passed ns s ts got.2 in
    let ms = frame.0 in
    let long : length ps ≡ length (s ∷ ms) = ap length is.0 ∙ length-map ns decimal ∙ ap length frame.1 in
    let even : length ms % 2 ≡ 0 = omega (arith, long, length-placed at ps, eqb-true (length (placed at ps) % 2) 1 odd.0) in
    let back : ns ≡ s ∷ flat ts = frame.1 ∙ ap (λ l. s ∷ l) (sym (flat-pairs ms even) ∙ ap flat frame.2) in
    let words = subst Words back is.1 in (
      record {
        word = words.0;
        terms = makes_frame ts (words_weights ts words.1) (subst (λ l. check l ≡ Ok tt) frame.2 frame.3);
      },
      is.0 ∙ ap (map decimal) back,
    )

fields_each : (s : ℕ) (ts : List Term) (at : ℕ) → IsFrame s ts → read_fields (placed at (map decimal (s ∷ flat ts))) ≡ Ok (content s ts)
fields_each s ts at f =
    let fs = placed at (map decimal (s ∷ flat ts)) in
    let long : length fs ≡ 1 + 2 * length ts = length-placed at (map decimal (s ∷ flat ts)) ∙ length-map (s ∷ flat ts) decimal ∙ omega (arith, length-flat ts) in
    let odd : length fs % 2 ≡ 1 = omega arith in
    cond-true (eqb (length fs % 2) 1) _ _ (eq-eqb (length fs % 2) 1 odd)
    ∙ ap (λ r. and_then r frame_of) (written_numbers (s ∷ flat ts) at (frame_words s ts f))
    ∙ ap (checked s) (pairs-flat ts)
    ∙ ap (map_ok (λ _. content s ts)) (frame_checks ts f.terms)

-- the whole line, and back
pub line_only : (line : List ℕ) (s : ℕ) (ts : List Term) → read line ≡ Ok (content s ts) → IsFrame s ts × (line ≡ line_of s ts)
line_only line s ts h =
    let known = kind_read (line_kind line) _ _ h in
    let b = begins line kinds.Frame known.0 in
    let frame = fields_only b.parts 2 s ts (ap read_fields (sym b.rest) ∙ known.1) in
    (frame.0, b.is ∙ ap (λ ps. join 44 ((70 ∷ []) ∷ ps)) frame.1)

pub line_each : (s : ℕ) (ts : List Term) → IsFrame s ts → read (line_of s ts) ≡ Ok (content s ts)
line_each s ts f =
    let parts = map decimal (s ∷ flat ts) in
    let whole = all_whole (s ∷ flat ts) (frame_words s ts f) in
    ap (λ k. frame_only k (drop 1 (fields_of (line_of s ts)))) (written_kind kinds.Frame parts whole (line_short s ts f))
    ∙ ap read_fields (written_rest kinds.Frame parts whole)
    ∙ fields_each s ts 2 f

pub reads_frame : (line : List ℕ) (r : Result Content RefusalCase) → r ≡ read line → ReadsFrame line r
reads_frame line r is =
    record {
      only = λ s ts h. line_only line s ts (sym is ∙ h);
      each = λ s ts f e. is ∙ ap read e ∙ line_each s ts f;
    }

pub one_line : (s : ℕ) (ts : List Term) → IsFrame s ts → OneLine s ts
one_line s ts f = record { short = line_short s ts f; back = line_each s ts f; only = λ line h. (line_only line s ts h).1 }

-- the sum and the terms of a frame
pub is_frame : (f : Frame) → IsFrame (sum_of f) (terms_of f)
is_frame f = record { word = f.word; terms = f.frame }

-- a frame's line comes out as it went in
pub echoes : (line : List ℕ) → Echoes line
echoes line s ts f e = ap (λ r. answer_of r ++ 10 ∷ []) (ap read e ∙ line_each s ts f) ∙ ap (λ l. l ++ 10 ∷ []) (sym e)
