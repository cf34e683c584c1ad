-- A frame's parts by name. Assumes nothing.
use Rattle.std.specs.Prelude.{◌≡◌, ℕ, List}
use Rattle.frame.specs.declared.terms.Term.{Term}
use Rattle.frame.specs.declared.frames.Frame.{Frame}

abbrev pub sum_of : Frame → ℕ
sum_of f = f.sum

abbrev pub terms_of : Frame → List Term
terms_of f = f.terms.now

-- the frame of this sum and these terms
pub record FrameOf (sum : ℕ) (ts : List Term) (f : Frame) : Type 0 where
  pub sums : sum_of f ≡ sum
  pub holds : terms_of f ≡ ts
