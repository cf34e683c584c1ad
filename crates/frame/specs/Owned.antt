-- The parts of a frame that owns its terms. Assumes nothing.
use Rattle.std.specs.Prelude.{ℕ, List, take}
use Rattle.frame.specs.declared.terms.Term.{Term}
use Rattle.frame.specs.declared.buffers.FrameBuf.{FrameBuf}

abbrev pub sum_in : FrameBuf → ℕ
sum_in b = b.sum

abbrev pub terms_in : FrameBuf → List Term
terms_in b = take b.count b.terms
