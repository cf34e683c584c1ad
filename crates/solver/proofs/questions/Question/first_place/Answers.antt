use Rattle.std.proofs.Common.{sym, subst}
use Rattle.solver.specs.Questions.{about_rows, about_columns, asked, TrueAnswer}
use Rattle.solver.proofs.Verifying.{first_true}
use Rattle.solver.proofs.questions.Question.first_place.Goals as goal

pub returns-in-Row-clause-truth : goal.returns-in-Row-clause-truth
returns-in-Row-clause-truth g c =
    let K = g.F.Field.ops in
    let S = g.R.Rows.system c.args.rows.now in
    subst (λ q. TrueAnswer K S (asked q) c.first_row.result) (sym c.in-Row.is) (first_true K S (about_rows c.in-Row.x.now) c.first_row.result (sym c.first_row.ensures))

pub returns-in-Column-clause-truth : goal.returns-in-Column-clause-truth
returns-in-Column-clause-truth g c =
    let K = g.F.Field.ops in
    let S = g.R.Rows.system c.args.rows.now in
    subst (λ q. TrueAnswer K S (asked q) c.first_column.result) (sym c.in-Column.is) (first_true K S (about_columns c.in-Column.u.now) c.first_column.result (sym c.first_column.ensures))
