use Rattle.std.proofs.Common.{ℕ, sym, rules, ◌∙◌}
use Rattle.field.specs.LawsForAll.{lawful}
use Rattle.field.specs.Sums.{Σ}
use Rattle.rows.specs.Values.{choice, entry}
use Rattle.solver.proofs.Products.{dot_next, dot_skip}
use Rattle.solver.proofs.questions.column_value.Goals as goal
use Rattle.solver.proofs.questions.column_value.Goals.{then-factor-ne0, else-factor-ne0}

pub loop-row-init : goal.loop-row-init
unfolding Σ
loop-row-init g c = search rules

pub loop-row-preserved : goal.loop-row-preserved
loop-row-preserved g c =
    let F = lawful g.F.Field.ops g.met.F.Field.laws in
    let u = choice c.args.u.now in
    let weights = λ (i : ℕ). entry g.F.Field.ops (g.R.Rows.system c.args.rows.now) i c.args.minute in
    let row = c.loop-row.row in
    elim c.if-factor-ne0.branch [
      | then-factor-ne0 w ↦
          w.total-is ∙ w.plus-total.ensures ∙ rw (w.times.ensures)
          (dot_next F u weights row c.factor_at-factor.result w.entry_or_zero-weight.result c.loop-row.total c.loop-row.invariant c.factor_at-factor.ensures w.entry_or_zero-weight.ensures)
      | else-factor-ne0 w ↦
          w.total-is ∙ c.loop-row.invariant ∙ sym (dot_skip F u weights row (sym c.factor_at-factor.ensures ∙ w.if-factor-ne0.false))
    ]
