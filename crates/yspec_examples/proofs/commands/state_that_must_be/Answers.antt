use Rattle.std.proofs.Common.{refl}
use Rattle.yspec_run.proofs.ProgramLiterals.{yprogram_on_literals}
use Rattle.yspec_examples.proofs.commands.state_that_must_be.Goals as goal

pub returns : goal.returns
unfolding yprogram_on_literals
returns c = record {
  choice = refl;
  no_choice = refl;
  items = refl;
  no_items = refl;
}
