-- Numbers written one after the other. Assumes nothing.
use Rattle.std.proofs.Common.{◌≡◌, ℕ, zero, suc, ◌+◌, ◌<◌, List, [], ◌∷◌, ◌++◌, length, take, slice_index, decimal, sym, ap, ◌∙◌, arith}
use Rattle.std.proofs.lemmas.List.{append-nil, append_assoc}
use Rattle.reports.specs.Texts.{numbers_text}

next_number : (ns : List ℕ) (i : ℕ) → i < length ns → numbers_text (take i ns) ++ 44 ∷ decimal (slice_index ns i) ≡ numbers_text (take (suc i) ns)
next_number [] i h = absurd (omega arith)
next_number (n ∷ ns) zero h = ap (λ d. 44 ∷ d) (sym (append-nil (decimal n)))
next_number (n ∷ ns) (suc i) h =
    ap (λ d. 44 ∷ d)
    (append_assoc (decimal n) (numbers_text (take i ns)) (44 ∷ decimal (slice_index ns i))
    ∙ ap (λ d. decimal n ++ d) (next_number ns i (omega arith)))

pub number_more : (ns : List ℕ) (i : ℕ) → i < length ns → numbers_text (take i ns) ++ 44 ∷ decimal (slice_index ns i) ≡ numbers_text (take (i + 1) ns)
number_more ns i h = let more : suc i ≡ i + 1 = omega arith in next_number ns i h ∙ ap (λ k. numbers_text (take k ns)) more
