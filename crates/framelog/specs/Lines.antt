-- The lines of an input and their answers. Assumes nothing.
use Rattle.std.specs.Prelude.{◌≡◌, ℕ, List, [], ◌∷◌, ◌++◌, take, vec_items, Result, Vec, MatchResult}
use Rattle.std.specs.declared.alloc.AllocError.{AllocError}
use Rattle.std.specs.declared.alloc.Global.{Global}
use Rattle.lines.specs.Writing.{Full}
use Rattle.lines.specs.Fields.{split}
use Rattle.framelog.specs.declared.logs.Log.{Log}
use Rattle.framelog.specs.Machines.{Machine}

-- the last line, which has no end yet
abbrev pub unfinished : List (List ℕ) → List ℕ
unfinished [] = []
unfinished (l ∷ []) = l
unfinished (l ∷ m ∷ ls) = unfinished (m ∷ ls)

-- the answers to all lines but the last, and the state after them
abbrev pub answered : {A : Type 0} → Machine A → A → List (List ℕ) → List ℕ
answered M a [] = []
answered M a (l ∷ []) = []
answered M a (l ∷ m ∷ ls) = M.output a l ++ answered M (M.next a l) (m ∷ ls)

abbrev pub state_after : {A : Type 0} → Machine A → A → List (List ℕ) → A
state_after M a [] = a
state_after M a (l ∷ []) = a
state_after M a (l ∷ m ∷ ls) = state_after M (M.next a l) (m ∷ ls)

-- a last line without its end is answered too, unless it is empty
abbrev pub answer_last : {A : Type 0} → Machine A → A → List ℕ → List ℕ
answer_last M a [] = []
answer_last M a (b ∷ bs) = M.output a (b ∷ bs)

abbrev pub after_last : {A : Type 0} → Machine A → A → List ℕ → A
after_last M a [] = a
after_last M a (b ∷ bs) = M.next a (b ∷ bs)

-- the whole output for an input, and the state at its end: byte 10 ends a line, each line is answered in order
abbrev pub answers : {A : Type 0} → Machine A → A → List ℕ → List ℕ
answers M a input = answered M a (split 10 input) ++ answer_last M (state_after M a (split 10 input)) (unfinished (split 10 input))

abbrev pub state_at_end : {A : Type 0} → Machine A → A → List ℕ → A
state_at_end M a input = after_last M (state_after M a (split 10 input)) (unfinished (split 10 input))

-- A log that began with `start` and had this input so far: what is held is the unfinished line, of a long one the first
-- 257 bytes, and the state is the one after all lines that ended.
pub record Holds {A : Type 0} (M : Machine A) (start : A) (log : Log A) (input : List ℕ) : Type 0 where
  pub line : log.line ≡ take 257 (unfinished (split 10 input))
  pub state : log.answerer ≡ state_after M start (split 10 input)

-- the output grew by just what the answers grew by, from a to b
pub record Grows (out out' : Vec ℕ Global) (a b : List ℕ) : Type 0 where
  pub text : List ℕ
  pub output : vec_items out' ≡ vec_items out ++ text
  pub answer : b ≡ a ++ text

-- Some bytes of input were taken. Whatever the start and the input before, if its unfinished line was held and the state was
-- the one after its lines, then so it is now, and what was appended to the output is the answers to the lines that ended in
-- these bytes.
pub record Keeps {A : Type 0} (M : Machine A) (log log' : Log A) (out out' : Vec ℕ Global) (bytes : List ℕ) : Type 0 where
  pub holds : (start : A) (input : List ℕ) → Holds M start log input → Holds M start log' (input ++ bytes)
  pub grows : (start : A) (input : List ℕ) → Holds M start log input → Grows out out' (answered M start (split 10 input)) (answered M start (split 10 (input ++ bytes)))

-- all of a chunk was taken; or its first bytes, as far as some output `full` that had no room for one more answer, for want of memory
abbrev pub Feeds : {A : Type 0} → Machine A → (log log' : Log A) (out out' : Vec ℕ Global) (chunk : List ℕ) → Result (Unit {0}) AllocError → Type 0
Feeds M log log' out out' chunk r =
    MatchResult r
    (λ _. Keeps M log log' out out' chunk)
    (λ _. (n : ℕ) × (full : Vec ℕ Global) × Keeps M log log' out full (take n chunk) × (vec_items out' ≡ vec_items full) × Full full 257)

-- a line's last part was taken, with the byte that ends it; or without it, for want of memory where there was no room for an answer
abbrev pub Ends : {A : Type 0} → Machine A → (log log' : Log A) (out out' : Vec ℕ Global) (part : List ℕ) → Result (Unit {0}) AllocError → Type 0
Ends M log log' out out' part r =
    MatchResult r
    (λ _. Keeps M log log' out out' (part ++ 10 ∷ []))
    (λ _. Keeps M log log' out out part × (vec_items out' ≡ vec_items out) × Full out 257)

-- The input is at its end: with what is appended now, the output has the answers to all of it, and what answers is in the
-- state after them. The line under way stays as it was.
pub record Ended {A : Type 0} (M : Machine A) (log log' : Log A) (out out' : Vec ℕ Global) : Type 0 where
  pub line : log'.line ≡ log.line
  pub state : (start : A) (input : List ℕ) → Holds M start log input → log'.answerer ≡ state_at_end M start input
  pub grows : (start : A) (input : List ℕ) → Holds M start log input → Grows out out' (answered M start (split 10 input)) (answers M start input)

-- so it is; or nothing is appended and the log stays as it was, for want of memory where there was no room for an answer
abbrev pub Finishes : {A : Type 0} → Machine A → (log log' : Log A) (out out' : Vec ℕ Global) → Result (Unit {0}) AllocError → Type 0
Finishes M log log' out out' r =
    MatchResult r
    (λ _. Ended M log log' out out')
    (λ _. (log' ≡ log) × (vec_items out' ≡ vec_items out) × Full out 257)

-- a whole log was answered; or the lines that end in its first n bytes, for want of memory where there was no room for an answer
abbrev pub AnswersAll : {A : Type 0} → Machine A → (start : A) (out out' : Vec ℕ Global) (log : List ℕ) → Result A AllocError → Type 0
AnswersAll M start out out' log r =
    MatchResult r
    (λ end. (vec_items out' ≡ vec_items out ++ answers M start log) × (end ≡ state_at_end M start log))
    (λ _. (n : ℕ) × (full : Vec ℕ Global) × (vec_items full ≡ vec_items out ++ answered M start (split 10 (take n log))) × (vec_items out' ≡ vec_items full) × Full full 257)
