use Rattle.std.proofs.Common.{rules, refl, sym, ap, subst}
use Rattle.rows.specs.Values.{OthersSatisfied}
use Rattle.rows.specs.Tables.{system_of}
use Rattle.rows.specs.Lemmas.SlotRows.{row_count, slots_fit}
use Rattle.rows.proofs.SlotChanges.{rows_struck}
use Rattle.rows.proofs.Strikes.{struck_others}
use Rattle.rows.proofs.tables.TableLedger.strike.Goals as goal

pub returns : goal.returns
returns c =
    let t = c.args.self.now in
    let row = c.args.row in
    let counted = row_count t.count t.slots (slots_fit t) in
    let gone = rows_struck t.count t.slots row c.if-row-self.false in
    record {
      answer = search rules;
      after = ap (λ rows. record { width = t.width.number; rows = rows }) gone;
      others = subst (λ rows. OthersSatisfied (system_of t) (record { width = t.width.number; rows = rows }) row) (sym gone) (struck_others (system_of t) row);
      kept = refl;
      limits = refl;
    }
