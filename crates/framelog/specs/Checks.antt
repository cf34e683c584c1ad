-- What the check of a log of frames answers. Assumes nothing.
use Rattle.std.specs.Prelude.{refl}
use Rattle.lines.specs.Answers.{answer_to}
use Rattle.lines.proofs.Fronts.{front_answer}
use Rattle.framelog.specs.declared.checks.FrameCheck.{FrameCheck}
use Rattle.framelog.specs.Machines.{Machine, KnowsFronts}

-- each line is answered by itself
abbrev pub frame_machine : Machine FrameCheck
frame_machine = record { output = λ check line. answer_to line; next = λ check line. check }

pub knows_fronts : KnowsFronts frame_machine
knows_fronts = record { output = λ check line. front_answer line; next = λ check line. refl }
