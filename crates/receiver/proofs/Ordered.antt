-- A block refuses in order. Assumes nothing.
use Rattle.std.proofs.Common.{[], ◌≡◌, ℕ, ◌<◌, ◌≤◌, ◌==◌, Bool, true, false, not, IsTrue, length, Option, Result, get_or, nat_le, nat_lt, sym, refl, subst, ◌∙◌, arith, true≢false}
use Rattle.std.specs.Option.{IsSome, is_some}
use Rattle.std.proofs.lemmas.Bool.{leb-true, le-leb, ltb-true, ltb-false, eqb-true, eqb-false}
use Rattle.field.specs.Operations.{Operations}
use Rattle.frame.specs.Refusals.{RefusalCase}
use Rattle.frame.specs.Orders.{Order, AtStart, KeepsOrder, when}
use Rattle.frame.proofs.Orders.{Finds, Passes, accepted, refused_first, finds_when, finds_position, finds_same}
use Rattle.rows.specs.Systems.{Row}
use Rattle.rows.proofs.Beyond.{finds_beyond, finds_full}
use Rattle.notes.specs.Notes.{noted_code, noted_count}
use Rattle.solver.specs.declared.spaces.TheConstants.{WORK_WORDS}
use Rattle.solver.specs.Outcomes.{Case}
use Rattle.receiver.specs.declared.stages.State.{State}
use Rattle.receiver.specs.Stages.{state_case, IsDisputed, is_disputed}
use Rattle.receiver.specs.Settlements.{settlement_of}
use Rattle.receiver.specs.Contents.{Contents, blame_of}
use Rattle.receiver.specs.Answers.{answer_to_note, order_of_note, numbers_of, first_no_code, NoCode, answer_to_take, order_of_take, answer_to_settle, order_of_settle, takes_back, answer_to_strike, order_of_strike}

-- an answer that is one in order is in order
in_order : {X : Type 0} (order : Order) (is answer : Result X RefusalCase) → KeepsOrder order is → answer ≡ is → KeepsOrder order answer
in_order order is answer kept same = subst (KeepsOrder order) (sym same) kept

finds_disputed : (s : State) → Finds (AtStart (IsDisputed s)) (when (is_disputed s))
finds_disputed s = finds_when (IsDisputed s) (is_disputed s) (eqb-true (state_case s).number 3) (eqb-false (state_case s).number 3)

finds_at_most : (m c : ℕ) → Finds (AtStart (m ≤ c)) (when (nat_le m c))
finds_at_most m c = finds_full 0 c m []

finds_noted : (o : Option ℕ) → Finds (AtStart (IsSome o)) (when (is_some o))
finds_noted o = finds_when (IsSome o) (is_some o) (λ e. e) (λ e some. true≢false (sym some ∙ e))

finds_no_code : (K : Operations) (r : Row) → Finds (NoCode K r) (first_no_code K r)
finds_no_code K r =
    finds_same (Passes (λ a. nat_le K.q a) 0 (numbers_of r)) (NoCode K r)
    (λ k p. (p.0, leb-true K.q (get_or (numbers_of r) k 0) p.1))
    (λ k b. (b.0, le-leb K.q (get_or (numbers_of r) k 0) b.1))
    (first_no_code K r)
    (finds_position (λ a. nat_le K.q a) 0 (numbers_of r))

finds_false : (b : Bool) → Finds (AtStart (¬ IsTrue b)) (when (not b))
finds_false true = finds_when (¬ IsTrue true) false (λ e. absurd (true≢false (sym e))) (λ e none. none refl)
finds_false false = finds_when (¬ IsTrue false) true (λ e holds. true≢false (sym holds)) (λ e. absurd (true≢false e))

finds_zero : (n : ℕ) → Finds (AtStart (n ≡ 0)) (when (n == 0))
finds_zero n = finds_when (n ≡ 0) (n == 0) (eqb-true n 0) (eqb-false n 0)

finds_short : (words : ℕ) → Finds (AtStart (words < WORK_WORDS)) (when (nat_lt words WORK_WORDS))
finds_short words = finds_when (words < WORK_WORDS) (nat_lt words WORK_WORDS) (ltb-true words WORK_WORDS) (λ e short. let enough = ltb-false words WORK_WORDS e in omega arith)

module _ (K : Operations) (b : Contents) where
  pub note_ordered : (c code : ℕ) (answer : Result (Unit {0}) RefusalCase) → answer ≡ answer_to_note K b c code → KeepsOrder (order_of_note K b c code) answer
  note_ordered c code answer =
      in_order _ _ answer
      (refused_first 1 _ _ _
      (refused_first 2 _ _ _
      (refused_first 3 _ _ _
      (refused_first 4 _ _ _ (accepted tt) _ (finds_noted (noted_code b.codes c)))
      _ (finds_at_most K.q code))
      _ (finds_at_most b.system.width c))
      _ (finds_disputed b.state))

  pub take_ordered : (r : Row) (answer : Result ℕ RefusalCase) → answer ≡ answer_to_take K b r → KeepsOrder (order_of_take K b r) answer
  take_ordered r answer =
      let n = length b.system.rows in
      in_order _ _ answer
      (refused_first 1 _ _ _
      (refused_first 2 _ _ _
      (refused_first 3 _ _ _
      (refused_first 5 _ _ _ (accepted n) _ (finds_at_most b.limit n))
      _ (finds_no_code K r))
      _ (finds_beyond b.system.width n b.limit r.terms))
      _ (finds_disputed b.state))

module _ (b : Contents) where
  pub settle_ordered : (words : ℕ) (outcome : Case) (answer : Result Case RefusalCase) → answer ≡ answer_to_settle b words outcome → KeepsOrder (order_of_settle b words) answer
  settle_ordered words outcome answer =
      in_order _ _ answer
      (refused_first 1 _ _ _
      (refused_first 6 _ _ _ (accepted (settlement_of outcome (noted_count b.codes) b.system.width)) _ (finds_short words))
      _ (finds_disputed b.state))

  pub strike_ordered : (name row : ℕ) (answer : Result (Unit {0}) RefusalCase) → answer ≡ answer_to_strike b name row → KeepsOrder (order_of_strike b name row) answer
  strike_ordered name row answer =
      in_order _ _ answer
      (refused_first 8 _ _ _
      (refused_first 9 _ _ _ (accepted tt) _ (finds_zero (blame_of b row)))
      _ (finds_false (takes_back b name)))
