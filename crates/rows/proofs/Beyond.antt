-- What take's answer tells of a row, and in which order a frame is refused. Assumes nothing.
use Rattle.std.specs.Prelude.{◌≡◌, ℕ, ◌+◌, ◌<◌, ◌≤◌, Bool, true, false, List, length, drop, Some, None, Ok, Option, Result, nat_le, refl}
use Rattle.std.proofs.Common.{sym, subst, arith}
use Rattle.std.proofs.lemmas.List.{drop_more}
use Rattle.std.proofs.lemmas.Bool.{leb-true, leb-false, le-leb, lt-leb}
use Rattle.frame.specs.declared.terms.Term.{Term}
use Rattle.frame.specs.Frames.{no_term, minute_at}
use Rattle.frame.specs.Refusals.{RefusalCase}
use Rattle.frame.specs.Orders.{AtStart, KeepsOrder, refuse, when}
use Rattle.frame.proofs.Apart.{err_ok}
use Rattle.frame.proofs.Orders.{Finds, Passes, accepted, refused_first, finds_when, finds_position, finds_same}
use Rattle.frame.proofs.Positions.{none_passes, none_found}
use Rattle.rows.specs.Systems.{Row, System}
use Rattle.rows.specs.Ledgers.{first_beyond, admit_answer, take_answer, BeyondWidth, admit_order}

-- one step of the search for a term beyond
module _ (m at : ℕ) (ts : List Term) (i : ℕ) (h : i < length ts) where
  pub here_beyond : m ≤ minute_at ts i → first_beyond m at (drop i ts) ≡ Some at
  here_beyond g = rw (drop_more ts i no_term h, le-leb m (minute_at ts i) g)

  pub later_beyond : minute_at ts i < m → first_beyond m at (drop i ts) ≡ first_beyond m (at + 1) (drop (i + 1) ts)
  later_beyond l = rw (drop_more ts i no_term h, lt-leb m (minute_at ts i) l)

-- no term is beyond just where all minutes are below
pub none_beyond : (m at : ℕ) (ts : List Term) → first_beyond m at ts ≡ None → (k : ℕ) → k < length ts → minute_at ts k < m
none_beyond m at ts e k h = leb-false m (minute_at ts k) (none_passes (λ t. nat_le m t.minute) no_term at ts e k h)

pub all_below_lem : (m at : ℕ) (ts : List Term) → ((k : ℕ) → k < length ts → minute_at ts k < m) → first_beyond m at ts ≡ None
all_below_lem m at ts below = none_found (λ t. nat_le m t.minute) no_term at ts (λ k h. lt-leb m (minute_at ts k) (below k h))

admitted_ok : (beyond : Option ℕ) (full : Bool) (n row : ℕ) → Ok row ≡ refuse 2 beyond (refuse 5 (when full) (Ok n)) → (beyond ≡ None) × (full ≡ false) × (row ≡ n)
admitted_ok (Some term) full n row e = absurd (err_ok _ row (sym e))
admitted_ok None true n row e = absurd (err_ok _ row (sym e))
admitted_ok None false n row e = (refl, refl, cc)

-- what is known where a row is taken
module _ (S : System) (limit : ℕ) (r : Row) (row : ℕ) (taken : Ok row ≡ take_answer S limit r) where
  parts : (first_beyond S.width 0 r.terms ≡ None) × (nat_le limit (length S.rows) ≡ false) × (row ≡ length S.rows)
  parts = admitted_ok (first_beyond S.width 0 r.terms) (nat_le limit (length S.rows)) (length S.rows) row taken

  pub taken_below : (k : ℕ) → k < length r.terms → minute_at r.terms k < S.width
  taken_below = none_beyond S.width 0 r.terms parts.0

  pub taken_room : length S.rows < limit
  taken_room = leb-false limit (length S.rows) parts.1

  pub taken_number : row ≡ length S.rows
  taken_number = parts.2

-- a row whose minutes are below the width is taken where there is room
pub is_taken : (S : System) (limit : ℕ) (r : Row) → ((k : ℕ) → k < length r.terms → minute_at r.terms k < S.width) → length S.rows < limit → take_answer S limit r ≡ Ok (length S.rows)
is_taken S limit r below room =
    rw (all_below_lem S.width 0 r.terms below, lt-leb limit (length S.rows) room) refl

-- a frame is refused in order
module _ (m n limit : ℕ) (ts : List Term) where
  pub finds_beyond : Finds (BeyondWidth m ts) (first_beyond m 0 ts)
  finds_beyond =
      finds_same (Passes (λ (t : Term). nat_le m t.minute) no_term ts) (BeyondWidth m ts)
      (λ k p. (p.0, leb-true m (minute_at ts k) p.1))
      (λ k b. (b.0, le-leb m (minute_at ts k) b.1))
      (first_beyond m 0 ts)
      (finds_position (λ (t : Term). nat_le m t.minute) no_term ts)

  pub finds_full : Finds (AtStart (limit ≤ n)) (when (nat_le limit n))
  finds_full =
      finds_when (limit ≤ n) (nat_le limit n) (leb-true limit n)
      (λ e full. let room = leb-false limit n e in omega arith)

  in_order : KeepsOrder (admit_order m n limit ts) (admit_answer m n limit ts)
  in_order =
      refused_first 2 _ _ _
      (refused_first 5 _ _ _ (accepted n) (when (nat_le limit n)) finds_full)
      (first_beyond m 0 ts) finds_beyond

  -- an answer that is such keeps the order
  pub answer_in_order : (answer : Result ℕ RefusalCase) → answer ≡ admit_answer m n limit ts → KeepsOrder (admit_order m n limit ts) answer
  answer_in_order answer is = subst (KeepsOrder (admit_order m n limit ts)) (sym is) in_order
