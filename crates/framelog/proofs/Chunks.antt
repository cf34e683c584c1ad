-- The parts of a chunk, one after the other. Assumes nothing.
use Rattle.std.proofs.Common.{◌≡◌, ℕ, List, ◌++◌, length, take, sym, refl, ap, ◌∙◌, append_assoc}
use Rattle.std.proofs.lemmas.List.{take_at}

-- a part more of a chunk
module _ (chunk taken left part rest : List ℕ) (before : chunk ≡ taken ++ left) (cut : left ≡ part ++ rest) where
  pub part_more : chunk ≡ (taken ++ part) ++ rest
  part_more = before ∙ ap (λ l. taken ++ l) cut ∙ sym (append_assoc taken part rest)

  pub part_taken : take (length (taken ++ part)) chunk ≡ taken ++ part
  part_taken = ap (take (length (taken ++ part))) part_more ∙ take_at (taken ++ part) rest _ refl
