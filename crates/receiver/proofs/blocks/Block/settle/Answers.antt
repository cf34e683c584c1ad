use Rattle.std.proofs.Common.{◌≡◌, ◌∙◌, length, ap, sym, subst, rules, refl}
use Rattle.field.specs.LawsForAll.{lawful}
use Rattle.notes.specs.Layers.{below}
use Rattle.notes.specs.Notes.{noted_count}
use Rattle.solver.specs.Outcomes.{outcome_case}
use Rattle.solver.specs.Runs.{Ran}
use Rattle.receiver.specs.Settlements.{settlement_case, settlement_of}
use Rattle.receiver.specs.Stands.{Stands}
use Rattle.receiver.specs.Contents.{with_run, run_of}
use Rattle.receiver.specs.Blocks.{contents}
use Rattle.receiver.proofs.Ordered.{settle_ordered}
use Rattle.receiver.proofs.Settling.{run_is}
use Rattle.receiver.proofs.Keeping.{found_stands, state_is, told_run, leaves_one, run_told, run_gave, settle_accepted, settle_refused}
use Rattle.receiver.proofs.blocks.Block.settle.Given as given
use Rattle.receiver.proofs.blocks.Block.settle.Goals as goal

-- the run
abbrev run : (g : given.Over) → goal.After-of g → Ran g.row.S.Denot
run g c = run_of g.F.Field.ops (contents c.args.self.now) g.S.Scout.meaning c.args.scout.now

-- what is told of it, by how it ended
as_told : (g : given.Over) (c : goal.After-of g) → settlement_case c.of.result ≡ settlement_of (outcome_case c.in_ok-outcome.outcome) (noted_count (contents c.args.self.now).codes) (contents c.args.self.now).system.width
as_told g c = search rules

-- and by the run
told : (g : given.Over) (c : goal.After-of g) → settlement_case c.of.result ≡ settlement_of (run g c).outcome (noted_count (contents c.args.self.now).codes) (contents c.args.self.now).system.width
told g c =
    told_run (lawful g.F.Field.ops g.met.F.Field.laws) (contents c.args.self.now) c.args.self.now.noted.fits (g.met.L.Rows.formed (below c.args.self.now.noted)) g.S.Scout.meaning c.args.scout.now c.settle.new.scout c.new-findings.result c.settle.new.findings c.in_ok-outcome.outcome c.in_ok-outcome.ensures.settles c.found-self.result c.found-self.ensures (settlement_case c.of.result) (as_told g c)

-- the state after it
left : (g : given.Over) (c : goal.After-of g) → c.found-self.result ≡ (with_run (contents c.args.self.now) (run g c)).state
left g c = state_is (lawful g.F.Field.ops g.met.F.Field.laws) (contents c.args.self.now) c.args.self.now.noted.fits (g.met.L.Rows.formed (below c.args.self.now.noted)) g.S.Scout.meaning c.args.scout.now c.settle.new.scout c.new-findings.result c.settle.new.findings c.in_ok-outcome.outcome c.in_ok-outcome.ensures.settles c.found-self.result c.found-self.ensures c.new-findings.ensures.minutes c.new-findings.ensures.blame

pub invariant_of-self : goal.invariant_of-self
invariant_of-self g c = record { stands = found_stands (lawful g.F.Field.ops g.met.F.Field.laws) (contents c.args.self.now) c.args.self.now.noted.fits (g.met.L.Rows.formed (below c.args.self.now.noted)) g.S.Scout.meaning c.args.scout.now c.settle.new.scout c.new-findings.result c.settle.new.findings c.in_ok-outcome.outcome c.in_ok-outcome.ensures.settles c.found-self.result c.found-self.ensures }

pub returns-in_err-undisputed-clause-law : goal.returns-in_err-undisputed-clause-law
returns-in_err-undisputed-clause-law g c = settle_refused (lawful g.F.Field.ops g.met.F.Field.laws) (contents c.args.self.now) c.args.self.now.stands g.S.Scout.meaning c.args.scout.now _ c.from_residual.result c.from_residual.ensures.0 refl

pub returns-in_err-outcome-clause-law : goal.returns-in_err-outcome-clause-law
returns-in_err-outcome-clause-law g c = settle_refused (lawful g.F.Field.ops g.met.F.Field.laws) (contents c.args.self.now) c.args.self.now.stands g.S.Scout.meaning c.args.scout.now _ c.from_residual-in_err-outcome.result c.from_residual-in_err-outcome.ensures.0 refl

pub returns-in_err-outcome-clause-order : goal.returns-in_err-outcome-clause-order
returns-in_err-outcome-clause-order g c = settle_ordered (contents c.args.self.now) (length c.args.work.now) (run_of g.F.Field.ops (contents c.args.self.now) g.S.Scout.meaning c.args.scout.now).outcome _ (search rules)

pub returns-clause-answer : goal.returns-clause-answer
returns-clause-answer g c = search (rules, told g c)

pub returns-clause-order : goal.returns-clause-order
returns-clause-order g c = settle_ordered (contents c.args.self.now) (length c.args.work.now) (run g c).outcome _ (returns-clause-answer g c)

pub returns-clause-contents : goal.returns-clause-contents
returns-clause-contents g c = ap (λ state. record (contents c.args.self.now) { state = state }) (left g c)

pub returns-clause-scout : goal.returns-clause-scout
returns-clause-scout g c =
    let s = c.in_ok-outcome.ensures.settles in
    s.scout ∙ sym (ap (λ (r : Ran g.row.S.Denot). r.scout) (run_is g.F.Field.ops (contents c.args.self.now) g.S.Scout.meaning c.args.scout.now c.settle.new.scout c.new-findings.result c.settle.new.findings c.in_ok-outcome.outcome s))

pub returns-clause-run : goal.returns-clause-run
returns-clause-run g c = run_told (lawful g.F.Field.ops g.met.F.Field.laws) (contents c.args.self.now) c.args.self.now.noted.fits (g.met.L.Rows.formed (below c.args.self.now.noted)) g.S.Scout.meaning c.args.scout.now c.settle.new.scout c.new-findings.result c.settle.new.findings c.in_ok-outcome.outcome c.in_ok-outcome.ensures.settles c.found-self.result c.found-self.ensures c.new-findings.ensures.minutes c.new-findings.ensures.blame

pub returns-clause-gave : goal.returns-clause-gave
returns-clause-gave g c = run_gave (lawful g.F.Field.ops g.met.F.Field.laws) (contents c.args.self.now) c.args.self.now.noted.fits (g.met.L.Rows.formed (below c.args.self.now.noted)) g.S.Scout.meaning c.args.scout.now c.settle.new.scout c.new-findings.result c.settle.new.findings c.in_ok-outcome.outcome c.in_ok-outcome.ensures.settles c.found-self.result c.found-self.ensures

pub returns-clause-law : goal.returns-clause-law
returns-clause-law g c =
    let b = (contents c.args.self.now) in
    settle_accepted (lawful g.F.Field.ops g.met.F.Field.laws) b c.args.self.now.stands g.S.Scout.meaning c.args.scout.now _ c.settle.new.scout c.new-findings.result c.settle.new.findings c.in_ok-outcome.outcome (settlement_case c.of.result) c.in_ok-outcome.ensures.settles (told g c)
    (subst (Stands g.F.Field.ops b.codes b.system) (left g c) (found_stands (lawful g.F.Field.ops g.met.F.Field.laws) (contents c.args.self.now) c.args.self.now.noted.fits (g.met.L.Rows.formed (below c.args.self.now.noted)) g.S.Scout.meaning c.args.scout.now c.settle.new.scout c.new-findings.result c.settle.new.findings c.in_ok-outcome.outcome c.in_ok-outcome.ensures.settles c.found-self.result c.found-self.ensures))
    (returns-clause-contents g c)

pub returns-clause-whole : goal.returns-clause-whole
returns-clause-whole g c = leaves_one (lawful g.F.Field.ops g.met.F.Field.laws) (contents c.args.self.now) c.args.self.now.noted.fits (g.met.L.Rows.formed (below c.args.self.now.noted)) g.S.Scout.meaning c.args.scout.now c.settle.new.scout c.new-findings.result c.settle.new.findings c.in_ok-outcome.outcome c.in_ok-outcome.ensures.settles c.found-self.result c.found-self.ensures (settlement_case c.of.result) (as_told g c) (record (contents c.args.self.now) { state = c.found-self.result }) c.noted_count.ensures.whole refl refl
