use Rattle.std.proofs.Common.{refl}
use Rattle.yspec_run.proofs.ProgramLiterals.{yprogram_on_literals}
use Rattle.yspec_examples.proofs.commands.configuration_alone.Goals as goal

pub returns : goal.returns
unfolding yprogram_on_literals
returns c = record {
  wanted = refl;
  unasked = refl;
  state = refl;
  of_two_entries = refl;
  after_edits = refl;
  dumped = refl;
}
