-- What answers lines, as a machine. Assumes nothing.
use Rattle.std.specs.Prelude.{◌≡◌, ℕ, List, ◌++◌, take, vec_items, Result, Vec, MatchResult}
use Rattle.std.specs.declared.alloc.AllocError.{AllocError}
use Rattle.std.specs.declared.alloc.Global.{Global}
use Rattle.lines.specs.Writing.{Full}

-- a Mealy machine over lines: what a state appends for a line, and the state after it
pub record Machine (A : Type 0) : Type 0 where
  pub output : A → List ℕ → List ℕ
  pub next : A → List ℕ → A

-- a line was answered; or nothing was appended and the state is the one before, for want of memory where there was no room for an answer
abbrev pub Answers : {A : Type 0} → Machine A → (a a' : A) (out out' : Vec ℕ Global) (line : List ℕ) → Result (Unit {0}) AllocError → Type 0
Answers M a a' out out' line r =
    MatchResult r
    (λ _. (vec_items out' ≡ vec_items out ++ M.output a line) × (a' ≡ M.next a line))
    (λ _. (vec_items out' ≡ vec_items out) × (a' ≡ a) × Full out 257)

-- a line is answered as its first 257 bytes are
pub record KnowsFronts {A : Type 0} (M : Machine A) : Type 0 where
  pub output : (a : A) (line : List ℕ) → M.output a (take 257 line) ≡ M.output a line
  pub next : (a : A) (line : List ℕ) → M.next a (take 257 line) ≡ M.next a line
