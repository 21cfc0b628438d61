use Rattle.std.proofs.Common.{refl}
use Rattle.yspec_run.proofs.ProgramLiterals.{yprogram_on_literals}
use Rattle.yspec_examples.proofs.commands.lines_of_every_kind.Goals as goal

pub returns : goal.returns
unfolding yprogram_on_literals
returns c = record {
  shown = refl;
  dumped = refl;
  other_bytes_behind_a_sign = refl;
  unread = refl;
}
