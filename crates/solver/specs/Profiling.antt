-- What a profile over rows answers and leaves. Assumes nothing.
use Rattle.std.specs.Prelude.{◌≡◌, ℕ, ◌≤◌, ◌||◌, List, length, slice_index, Ok, Result, nat_lt}
use Rattle.field.specs.Operations.{Operations}
use Rattle.field.specs.Slices.{Filled}
use Rattle.frame.specs.Refusals.{RefusalCase}
use Rattle.frame.specs.Orders.{refuse, when}
use Rattle.rows.specs.declared.sizes.TheConstants.{MOST_ROWS}
use Rattle.rows.specs.Systems.{System}
use Rattle.rows.specs.Values.{entry}
use Rattle.solver.specs.declared.spaces.TheConstants.{WORK_WORDS}
use Rattle.algebra.specs.Profiles.{RankProfile, LeastLongest, rank_profile}

-- the row rank profile of the rows' matrix
abbrev pub profile_of : Operations → System → List ℕ
profile_of K S = rank_profile K (length S.rows) S.width (entry K S)

-- a profile: how many rows, which stand at the head of the list, whose rest is as it was; they are
-- those that are no combination of the rows before them, rising, and the lexicographically least of
-- the longest lists of independent rows
pub record Profiles (K : Operations) (S : System) (list list' : List ℕ) (number : ℕ) : Type 0 where
  pub count : number ≡ length (profile_of K S)
  pub at_most : number ≤ length S.rows
  pub written : Filled (length (profile_of K S)) (slice_index (profile_of K S)) list list'
  pub profile : RankProfile K (length S.rows) S.width (entry K S) (profile_of K S)
  pub least : LeastLongest K (length S.rows) S.width (entry K S) (profile_of K S)

-- a profile is refused where the work space has under 8192 words or the list under 96 places
abbrev pub profile_answer : ℕ → ℕ → Result (Unit {0}) RefusalCase
profile_answer words places =
    refuse 6 (when (nat_lt words WORK_WORDS || nat_lt places MOST_ROWS)) (Ok tt)
