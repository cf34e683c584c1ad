use Rattle.std.proofs.Common.{◌≡◌, ℕ, List, ◌++◌}
use Rattle.framelog.specs.Lines.{Keeps}
use Rattle.framelog.specs.Parts.{to_cut}
use Rattle.framelog.proofs.logs.Log.feed.Given as goal

abbrev pub invariant-loop-part : goal.invariant-loop-part
invariant-loop-part g l = record {
  taken : List ℕ;
  cut : l.chunk ≡ taken ++ to_cut l.part-iterator;
  kept : Keeps g.A.Answerer.machine l.initial.self l.self l.initial.out l.out taken;
}
