-- What the calls of a block answer, and in which order they refuse. Assumes nothing.
use Rattle.std.specs.Prelude.{◌≡◌, ℕ, ◌<◌, ◌≤◌, ◌++◌, ◌&&◌, Bool, not, List, [], ◌∷◌, length, map}
use Rattle.std.specs.Prelude.{Ok, IsTrue, Option, Result, ◌==◌, nat_le, nat_lt, slice_index}
use Rattle.std.specs.List.{position_from}
use Rattle.field.specs.Operations.{Operations}
use Rattle.frame.specs.Refusals.{RefusalCase}
use Rattle.frame.specs.Orders.{Order, no_rule, rule, AtStart, refuse, when}
use Rattle.rows.specs.Systems.{Row}
use Rattle.rows.specs.Ledgers.{first_beyond, BeyondWidth}
use Rattle.notes.specs.Notes.{noted_count, note_answer, note_order}
use Rattle.solver.specs.declared.spaces.TheConstants.{WORK_WORDS}
use Rattle.solver.specs.Outcomes.{Case}
use Rattle.receiver.specs.Stages.{IsDisputed, is_disputed, slip_out, slip_due}
use Rattle.receiver.specs.Settlements.{settlement_of}
use Rattle.receiver.specs.Contents.{Contents, blame_of}

-- refused in a dispute, by 1
abbrev pub undisputed : Contents → Result (Unit {0}) RefusalCase
undisputed b = refuse 1 (when (is_disputed b.state)) (Ok tt)

-- the answer to a note: 1 in a dispute, and then as under any notes
abbrev pub answer_to_note : Operations → Contents → ℕ → ℕ → Result (Unit {0}) RefusalCase
answer_to_note K b c code =
    refuse 1 (when (is_disputed b.state)) (note_answer K b.system.width b.codes c code)

-- the order in which a note is refused: 1 in a dispute, and then as under any notes
abbrev pub order_of_note : Operations → Contents → ℕ → ℕ → Order
order_of_note K b c code =
    rule 1 (AtStart (IsDisputed b.state)) (note_order K b.system.width b.codes c code)

-- the numbers of a frame: its weights, and its sum as the term after the last
abbrev pub numbers_of : Row → List ℕ
numbers_of r = map (λ t. t.weight) r.terms ++ (r.sum ∷ [])

-- the first of a frame's numbers that is no code
abbrev pub first_no_code : Operations → Row → Option ℕ
first_no_code K r = position_from (λ a. nat_le K.q a) 0 (numbers_of r)

-- the number at a place is no code
abbrev pub NoCode : Operations → Row → ℕ → Type 0
NoCode K r k = (k < length (numbers_of r)) × (K.q ≤ slice_index (numbers_of r) k)

-- the answer to a take: the number of the frame's row
abbrev pub answer_to_take : Operations → Contents → Row → Result ℕ RefusalCase
answer_to_take K b r =
    let n = length b.system.rows in
    refuse 1 (when (is_disputed b.state))
    (refuse 2 (first_beyond b.system.width 0 r.terms)
    (refuse 3 (first_no_code K r) (refuse 5 (when (nat_le b.limit n)) (Ok n))))

-- the order in which a take is refused: 1 in a dispute, 2 for a minute beyond the width, 3 for a
-- weight or a sum that is no code, 5 for a full ledger
abbrev pub order_of_take : Operations → Contents → Row → Order
order_of_take K b r =
    rule 1 (AtStart (IsDisputed b.state))
    (rule 2 (BeyondWidth b.system.width r.terms)
    (rule 3 (NoCode K r) (rule 5 (AtStart (b.limit ≤ length b.system.rows)) no_rule)))

-- the answer to a settle whose run ends so, with so many words of work space: how it ended
abbrev pub answer_to_settle : Contents → ℕ → Case → Result Case RefusalCase
answer_to_settle b words outcome =
    refuse 1 (when (is_disputed b.state))
    (refuse 6 (when (nat_lt words WORK_WORDS))
    (Ok (settlement_of outcome (noted_count b.codes) b.system.width)))

-- the order in which a settle is refused: 1 in a dispute, 6 for too little work space
abbrev pub order_of_settle : Contents → ℕ → Order
order_of_settle b words =
    rule 1 (AtStart (IsDisputed b.state)) (rule 6 (AtStart (words < WORK_WORDS)) no_rule)

-- the answer to a slip: one that bears the block's name
abbrev pub answer_to_slip : Contents → Result ℕ RefusalCase
answer_to_slip b = refuse 7 (when (not (slip_due b.state))) (Ok b.name)

-- whether a slip of this name is taken back: the block's own name, with its slip out
abbrev pub takes_back : Contents → ℕ → Bool
takes_back b name = (name == b.name) && slip_out b.state

-- the answer to a return or an abandon with a slip of this name
abbrev pub answer_with_slip : Contents → ℕ → Result (Unit {0}) RefusalCase
answer_with_slip b name = refuse 8 (when (not (takes_back b name))) (Ok tt)

-- a row is not blamed: there is no such row, or u is 0 there
abbrev pub is_unblamed : Contents → ℕ → Bool
is_unblamed b i = blame_of b i == 0

-- the answer to a strike
abbrev pub answer_to_strike : Contents → ℕ → ℕ → Result (Unit {0}) RefusalCase
answer_to_strike b name i =
    refuse 8 (when (not (takes_back b name))) (refuse 9 (when (is_unblamed b i)) (Ok tt))

-- the order in which a strike is refused: 8 for another name or no slip out, 9 for a row that is
-- not blamed
abbrev pub order_of_strike : Contents → ℕ → ℕ → Order
order_of_strike b name i =
    rule 8 (AtStart (¬ IsTrue (takes_back b name)))
    (rule 9 (AtStart (blame_of b i ≡ 0)) no_rule)

-- the answer to a clear
abbrev pub answer_to_clear : Contents → Result (Unit {0}) RefusalCase
answer_to_clear = undisputed
