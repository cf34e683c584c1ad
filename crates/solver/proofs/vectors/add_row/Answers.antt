use Rattle.std.proofs.Common.{[], refl, sym, ap, arith, ◌∙◌}
use Rattle.field.specs.LawsForAll.{lawful}
use Rattle.rows.specs.RowTerms.{terms_left}
use Rattle.rows.proofs.RowValues.{found_terms}
use Rattle.solver.proofs.AddedRows.{no_terms, adding_none, minute_below, adding_next, adding_all, added_zero}
use Rattle.solver.proofs.vectors.add_row.Goals as goal

pub loop-term-init : goal.loop-term-init
loop-term-init g c =
    let S = g.R.Rows.system c.args.rows.now in
    let left = terms_left g.R.Rows.system in
    adding_none (lawful g.F.Field.ops g.met.F.Field.laws) c.args.factor c.args.values.now c.told-values c.requires S c.args.row (left c.into_iter-term-iterator.result)
    (ap left c.into_iter-term-iterator.ensures.into_iter_gives ∙ (found_terms S.rows c.args.row (left c.in-Some.terms) c.in-Some.ensures).1)

pub bounds-values-from : goal.bounds-values-from
bounds-values-from g c =
    let S = g.R.Rows.system c.args.rows.now in
    let left = terms_left g.R.Rows.system in
    let formed = g.met.R.Rows.formed c.args.rows.now in
    let there = found_terms S.rows c.args.row (left c.in-Some.terms) c.in-Some.ensures in
    let below = minute_below (lawful g.F.Field.ops g.met.F.Field.laws) c.args.factor c.args.values.now c.told-values c.requires S c.args.row (formed.each c.args.row there.0) formed.few_minutes c.loop-term.yielded (left c.loop-term.term-iterator) (left c.next.new.self) c.in-Some-term.term c.loop-term.values c.loop-term.invariant c.in-Some-term.ensures.steps in
    omega (arith, c.from.ensures)

pub loop-term-preserved : goal.loop-term-preserved
loop-term-preserved g c =
    let S = g.R.Rows.system c.args.rows.now in
    let left = terms_left g.R.Rows.system in
    let formed = g.met.R.Rows.formed c.args.rows.now in
    let there = found_terms S.rows c.args.row (left c.in-Some.terms) c.in-Some.ensures in
    rw (c.from.ensures)
    (adding_next (lawful g.F.Field.ops g.met.F.Field.laws) c.args.factor c.args.values.now c.told-values c.requires S c.args.row (formed.each c.args.row there.0) formed.few_minutes c.loop-term.yielded (left c.loop-term.term-iterator) (left c.next.new.self) c.in-Some-term.term c.loop-term.values c.loop-term.invariant c.in-Some-term.ensures.steps
    c.plus.result (c.plus.ensures ∙ rw (c.from.ensures, c.times.ensures) refl))

pub returns-in-None : goal.returns-in-None
returns-in-None g c =
    let S = g.R.Rows.system c.args.rows.now in
    adding_all (lawful g.F.Field.ops g.met.F.Field.laws) c.args.factor c.args.values.now c.told-values c.requires S c.args.row c.loop-term.yielded (terms_left g.R.Rows.system c.loop-term.term-iterator) c.loop-term.values c.loop-term.invariant c.in-None.ensures.steps.0

pub returns-in_default : goal.returns-in_default
returns-in_default g c =
    let S = g.R.Rows.system c.args.rows.now in
    let F = lawful g.F.Field.ops g.met.F.Field.laws in
    adding_all F c.args.factor c.args.values.now c.told-values c.requires S c.args.row [] [] c.args.values.now
    (adding_none F c.args.factor c.args.values.now c.told-values c.requires S c.args.row [] (sym (no_terms S.rows c.args.row (sym c.in_default.ensures)))) refl

pub returns-then-factor-eq0 : goal.returns-then-factor-eq0
returns-then-factor-eq0 g c =
    rw (c.if-factor-eq0.true) (added_zero (lawful g.F.Field.ops g.met.F.Field.laws) c.args.factor c.args.values.now c.told-values c.requires (g.R.Rows.system c.args.rows.now) c.args.row)
