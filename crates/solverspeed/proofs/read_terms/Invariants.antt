use Rattle.solverspeed.proofs.Reading.{TermsRead}
use Rattle.solverspeed.proofs.read_terms.Given as goal

abbrev pub invariant-loop-k : goal.invariant-loop-k
invariant-loop-k l = TermsRead l.k l.pairs l.terms
