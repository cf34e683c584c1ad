-- The writer of a frame's line. Assumes nothing.
use Rattle.std.specs.Prelude.{◌≡◌, ℕ, ◌+◌, ◌<◌, ◌≤◌, List, ◌++◌, map, length, Ok, vec_items, vec_len, vec_capacity, decimal, Result, Vec, MatchResult}
use Rattle.std.specs.declared.alloc.AllocError.{AllocError}
use Rattle.std.specs.declared.alloc.Global.{Global}
use Rattle.frame.specs.declared.terms.Term.{Term}
use Rattle.lines.specs.Fields.{parted}
use Rattle.lines.specs.Frames.{flat, line_of}
use Rattle.lines.specs.Reading.{content, read}

-- the part of a line that terms take
abbrev pub terms_text : List Term → List ℕ
terms_text ts = parted 44 (map decimal (flat ts))

-- v would have to ask for memory to hold so many bytes more
abbrev pub Full : Vec ℕ Global → ℕ → Type 0
Full v n = vec_capacity v < vec_len v + n

-- all of the bytes are appended; or nothing is, for want of memory where there was no room for n bytes
abbrev pub Appends : Vec ℕ Global → Vec ℕ Global → List ℕ → ℕ → Result (Unit {0}) AllocError → Type 0
Appends before after bytes n r = MatchResult r (λ _. vec_items after ≡ vec_items before ++ bytes) (λ _. (vec_items after ≡ vec_items before) × Full before n)

-- a frame has one line: reading takes it, and no other, to that frame, and it is never over 256 bytes
pub record OneLine (s : ℕ) (ts : List Term) : Type 0 where
  pub short : length (line_of s ts) ≤ 256
  pub back : read (line_of s ts) ≡ Ok (content s ts)
  pub only : (line : List ℕ) → read line ≡ Ok (content s ts) → line ≡ line_of s ts
