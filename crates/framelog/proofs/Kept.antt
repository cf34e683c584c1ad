-- The front of a line that is kept. Assumes nothing.
use Rattle.std.proofs.Common.{◌≡◌, ℕ, zero, suc, ◌+◌, min, List, [], ◌∷◌, ◌++◌, length, take, sym, refl, ap, arith}
use Rattle.std.proofs.Math.Seq.{take-append-add}
use Rattle.std.proofs.lemmas.List.{take_min}

pub front_front : {X : Type 0} (n : ℕ) (xs ys : List X) → take n (take n xs ++ ys) ≡ take n (xs ++ ys)
front_front zero xs ys = refl
front_front (suc n) [] ys = refl
front_front (suc n) (x ∷ xs) ys = ap (λ l. x ∷ l) (front_front n xs ys)

-- as much of a part as there is room for
pub kept_front : (n room : ℕ) (xs part : List ℕ) → room + length xs ≡ n → xs ++ take (min room (length part)) part ≡ take n (xs ++ part)
kept_front n room xs part fits =
    let e : length xs + room ≡ n = omega arith in
    rw (take_min, ← e) (sym (take-append-add xs part room))
