-- The head of a list that a profile wrote. Assumes nothing.
use Rattle.std.proofs.Common.{◌≡◌, ℕ, ◌≤◌, List, length, take, ◌∙◌, arith}
use Rattle.std.proofs.lemmas.List.{ext_get_or, get_or-take, length-take-le}
use Rattle.field.specs.Operations.{Operations}
use Rattle.rows.specs.Systems.{System}
use Rattle.solver.specs.Profiling.{profile_of, Profiles}

-- the head of the list is the profile
pub profile_taken : (K : Operations) (S : System) (list list' : List ℕ) (count : ℕ) → Profiles K S list list' count → count ≤ length list → take count list' ≡ profile_of K S
profile_taken K S list list' count P fits =
    let long = P.written.long in
    ext_get_or 0 (take count list') (profile_of K S) (length-take-le count list' (omega arith) ∙ P.count)
    (λ i h. let l = length-take-le count list' (omega arith) in get_or-take count list' i 0 (omega arith) ∙ P.written.done i (omega (arith, P.count)))
