-- Bytes cut at a separator, and put together again. Assumes nothing.
use Rattle.std.specs.Prelude.{◌≡◌, ℕ, suc, ◌+◌, ◌<◌, ◌≤◌, cond, List, [], ◌∷◌, ◌++◌, length, drop, ◌==◌, ◌≢◌, nat_le, slice_index}

-- a byte in front of the first part
abbrev pub on_first : ℕ → List (List ℕ) → List (List ℕ)
on_first b [] = (b ∷ []) ∷ []
on_first b (p ∷ ps) = (b ∷ p) ∷ ps

-- the parts between separators: one more than there are separators
abbrev pub split : ℕ → List ℕ → List (List ℕ)
split s [] = [] ∷ []
split s (b ∷ bs) = cond (b == s) ([] ∷ split s bs) (on_first b (split s bs))

-- each part behind a separator
abbrev pub parted : ℕ → List (List ℕ) → List ℕ
parted s [] = []
parted s (p ∷ ps) = s ∷ (p ++ parted s ps)

-- the parts with a separator between any two
abbrev pub join : ℕ → List (List ℕ) → List ℕ
join s [] = []
join s (p ∷ ps) = p ++ parted s ps

-- no byte of a part is the separator
abbrev pub Whole : ℕ → List ℕ → Type 0
Whole s p = (k : ℕ) → k < length p → slice_index p k ≢ s

abbrev pub AllWhole : ℕ → List (List ℕ) → Type 0
AllWhole s [] = Unit {0}
AllWhole s (p ∷ ps) = Whole s p × AllWhole s ps

-- the parts are those between separators: joined they are the bytes, and none holds a separator
pub record CutAt (s : ℕ) (bytes : List ℕ) (parts : List (List ℕ)) : Type 0 where
  pub joined : join s parts ≡ bytes
  pub whole : AllWhole s parts

-- the part that begins at `from` ends at `end`: no separator stands between them, and one at `end` unless the bytes end there
pub record PartEnd (bytes : List ℕ) (from separator end : ℕ) : Type 0 where
  pub after : from ≤ end
  pub within : from ≤ length bytes → end ≤ length bytes
  pub beyond : length bytes < from → end ≡ from
  pub inside : (k : ℕ) → from ≤ k → k < end → slice_index bytes k ≢ separator
  pub stops : end < length bytes → slice_index bytes end ≡ separator

-- a field: its bytes, and the offset of its first byte in the line
pub record Field : Type 0 where
  pub at : ℕ
  pub text : List ℕ

-- parts with their offsets, the first at `at`, and one separator between any two
abbrev pub placed : ℕ → List (List ℕ) → List Field
placed at [] = []
placed at (p ∷ ps) = record { at = at; text = p } ∷ placed (suc (at + length p)) ps

-- the fields of a line from offset `at` on, parted by commas; none where the line is shorter
abbrev pub fields_from : List ℕ → ℕ → List Field
fields_from line at = cond (nat_le at (length line)) (placed at (split 44 (drop at line))) []

abbrev pub fields_of : List ℕ → List Field
fields_of line = placed 0 (split 44 line)
