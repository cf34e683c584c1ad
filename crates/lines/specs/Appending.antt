-- Bytes appended to a `Vec` that has room for them. Assumes nothing.
use Rattle.std.specs.Prelude.{◌≡◌, ℕ, ◌+◌, ◌≤◌, List, ◌++◌, length, vec_items, vec_len, vec_capacity, Vec}
use Rattle.std.specs.declared.alloc.Global.{Global}

-- v can hold so many bytes more without asking for memory
abbrev pub Room : Vec ℕ Global → ℕ → Type 0
Room v n = vec_len v + n ≤ vec_capacity v

-- `after` is `before` with bytes behind it, in the same memory
pub record Puts (before after : Vec ℕ Global) (bytes : List ℕ) : Type 0 where
  pub items : vec_items after ≡ vec_items before ++ bytes
  pub len : vec_len after ≡ vec_len before + length bytes
  pub capacity : vec_capacity after ≡ vec_capacity before
