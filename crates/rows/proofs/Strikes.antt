-- After a strike the other rows are satisfied as before. Assumes nothing.
use Rattle.std.proofs.Common.{ℕ, Ok, Err, Result, sym, subst}
use Rattle.std.proofs.lemmas.List.{get_or-set_other}
use Rattle.frame.specs.declared.refusals.Refusal.{Refusal}
use Rattle.rows.specs.Systems.{System, empty_row}
use Rattle.rows.specs.Ledgers.{struck, after_strike}
use Rattle.rows.specs.Values.{Satisfies, OthersSatisfied}

pub struck_others : (S : System) (i : ℕ) → OthersSatisfied S (struck S i) i
struck_others S i K x k other =
    let same = get_or-set_other S.rows i k empty_row empty_row other in
    (subst (λ r. Satisfies K r x) (sym same), subst (λ r. Satisfies K r x) same)

pub strike_others : (S : System) (i : ℕ) (answer : Result (Unit {0}) Refusal) → OthersSatisfied S (after_strike answer S i) i
strike_others S i (Ok u) = struck_others S i
strike_others S i (Err e) = λ K x k other. (λ fit. fit, λ fit. fit)
