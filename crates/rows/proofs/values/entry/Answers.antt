use Rattle.std.proofs.Common.{Some, ◌%◌, sym, ap, ◌∙◌, arith}
use native.Mathlib.Nat.{zero-mod}
use Rattle.rows.specs.RowTerms.{terms_left}
use Rattle.rows.specs.Values.{weight_for}
use Rattle.rows.proofs.RowValues.{found_terms, weight_here, weight_behind, entry_there}
use Rattle.rows.proofs.values.entry.Goals as goal

pub loop-term-init : goal.loop-term-init
loop-term-init g c =
    let S = g.R.Rows.system c.args.rows.now in
    let there = found_terms S.rows c.args.row _ c.in_ok-terms.ensures in
    ap (λ it. weight_for (terms_left g.R.Rows.system it) c.args.minute) c.into_iter-term-iterator.ensures.into_iter_gives ∙ ap (λ ts. weight_for ts c.args.minute) there.1

pub loop-term-preserved : goal.loop-term-preserved
loop-term-preserved g c =
    sym (weight_behind c.args.minute c.in-Some.term _ _ c.in-Some.ensures.steps (λ e. c.if-from-minute.false (c.from.ensures ∙ e))) ∙ c.loop-term.invariant

pub returns-then-from-minute : goal.returns-then-from-minute
returns-then-from-minute g c =
    let S = g.R.Rows.system c.args.rows.now in
    let there = found_terms S.rows c.args.row _ c.in_ok-terms.ensures in
    let weight = sym (weight_here c.args.minute c.in-Some.term _ _ c.in-Some.ensures.steps (sym c.from.ensures ∙ c.if-from-minute.true)) ∙ c.loop-term.invariant in
    ap Some (c.code_of.ensures ∙ ap (λ w. w % g.F.Field.ops.q) weight) ∙ sym (entry_there g.F.Field.ops S c.args.row c.args.minute there.0 (omega (arith, c.if-minute-width.false, c.width.ensures)))

pub returns : goal.returns
returns g c =
    let S = g.R.Rows.system c.args.rows.now in
    let there = found_terms S.rows c.args.row _ c.in_ok-terms.ensures in
    let weight = sym (ap (λ ts. weight_for ts c.args.minute) c.in-None.ensures.steps.0) ∙ c.loop-term.invariant in
    ap Some (sym (zero-mod g.F.Field.ops.q) ∙ ap (λ w. w % g.F.Field.ops.q) weight) ∙ sym (entry_there g.F.Field.ops S c.args.row c.args.minute there.0 (omega (arith, c.if-minute-width.false, c.width.ensures)))
