use Rattle.std.proofs.Common.{refl}
use Rattle.yspec_run.proofs.ProgramLiterals.{yprogram_on_literals}
use Rattle.yspec_examples.proofs.commands.said_besides.Goals as goal

pub returns : goal.returns
unfolding yprogram_on_literals
returns c = record {
  no_json = refl;
  no_object = refl;
  another_name = refl;
  unread = refl;
  unasked = refl;
}
