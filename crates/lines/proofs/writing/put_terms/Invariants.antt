use Rattle.std.proofs.Common.{◌≡◌, ℕ, List, ◌++◌, drop}
use Rattle.lines.specs.Appending.{Puts}
use Rattle.lines.specs.Writing.{terms_text}
use Rattle.lines.proofs.writing.put_terms.Given as goal

abbrev pub invariant-loop-term : goal.invariant-loop-term
invariant-loop-term l = (done : List ℕ) × Puts l.initial.out l.out done × (done ++ terms_text (drop l.term-index l.terms) ≡ terms_text l.terms)
