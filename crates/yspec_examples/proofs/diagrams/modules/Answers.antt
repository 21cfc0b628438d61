use Rattle.std.proofs.Common.{refl}
use Rattle.yspec_run.proofs.ProgramLiterals.{yprogram_on_literals}
use Rattle.yspec_examples.proofs.diagrams.modules.Goals as goal

pub returns : goal.returns
unfolding yprogram_on_literals
returns c = record {
  first = refl;
  second = refl;
}
