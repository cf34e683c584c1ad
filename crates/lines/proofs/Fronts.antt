-- A line says what its first 257 bytes say. Assumes nothing.
use Rattle.std.proofs.Common.{◌≡◌, ℕ, ◌<◌, List, ◌∷◌, [], ◌++◌, length, take, drop, Err, None, sym, ap, ◌∙◌, ⊎_elim, arith}
use Rattle.std.proofs.lemmas.List.{take_all, length-take-le}
use Rattle.std.proofs.lemmas.Bool.{cases_lt}
use Rattle.frame.specs.Refusals.{refused}
use Rattle.lines.specs.Answers.{answer_of, answer_to}
use Rattle.lines.specs.Entries.{by_kind, read_entry}
use Rattle.lines.specs.Fields.{fields_of}
use Rattle.lines.specs.Kinds.{line_kind}
use Rattle.lines.specs.Reading.{frame_only, read}
use Rattle.lines.proofs.Begins.{long_unknown}

-- what is the same of all lines over 256 bytes is the same of a line and of its front
front_same : {C : Type 0} (f : List ℕ → C) (c : C) → ((line : List ℕ) → 256 < length line → f line ≡ c) → (line : List ℕ) → f (take 257 line) ≡ f line
front_same f c long line =
    ⊎_elim
    (λ h.
    let cut : length (take 257 line) ≡ 257 = length-take-le 257 line (omega arith) in
    long (take 257 line) (omega arith) ∙ sym (long line h))
    (λ h. ap f (take_all 257 line (omega arith)))
    (cases_lt 256 (length line))

pub front_kind : (line : List ℕ) → line_kind (take 257 line) ≡ line_kind line
front_kind = front_same line_kind None long_unknown

pub front_answer : (line : List ℕ) → answer_to (take 257 line) ≡ answer_to line
front_answer line = ap (λ r. answer_of r ++ 10 ∷ []) (front_same read (Err (refused 13 0)) (λ l h. ap (λ k. frame_only k (drop 1 (fields_of l))) (long_unknown l h)) line)

pub front_entry : (line : List ℕ) → read_entry (take 257 line) ≡ read_entry line
front_entry = front_same read_entry (Err (refused 13 0)) (λ l h. ap (λ k. by_kind k (drop 1 (fields_of l))) (long_unknown l h))
