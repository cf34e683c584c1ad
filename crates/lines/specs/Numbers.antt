-- The numbers of a line, as the program reads them and in plain words. Assumes nothing.
use Rattle.std.specs.Prelude.{◌≡◌, ℕ, ◌+◌, ◌-◌, ◌*◌, ◌<◌, cond, List, [], ◌∷◌, Some, None, decimal, Option, ◌==◌, nat_le, nat_lt}

-- the number that digits write after n; none at a byte that is no digit, and none past 65535
abbrev pub read_on : ℕ → List ℕ → Option ℕ
read_on n [] = Some n
read_on n (c ∷ cs) = cond (nat_le 48 c) (cond (nat_le c 57) (cond (nat_lt (n * 10 + (c - 48)) 65536) (read_on (n * 10 + (c - 48)) cs) None) None) None

-- the number that bytes write: some digits, and no 0 in front of others
abbrev pub number_of : List ℕ → Option ℕ
number_of [] = None
number_of (c ∷ []) = read_on 0 (c ∷ [])
number_of (c ∷ d ∷ cs) = cond (c == 48) None (read_on 0 (c ∷ d ∷ cs))

-- r is the number that bytes write: n exactly where they are the decimal of n
pub record Number (bytes : List ℕ) (r : Option ℕ) : Type 0 where
  pub reads : (n : ℕ) → r ≡ Some n → (n < 65536) × (bytes ≡ decimal n)
  pub written : (n : ℕ) → n < 65536 → bytes ≡ decimal n → r ≡ Some n
