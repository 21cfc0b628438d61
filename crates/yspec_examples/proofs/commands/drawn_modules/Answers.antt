use Rattle.std.proofs.Common.{refl}
use Rattle.yspec_run.proofs.ProgramLiterals.{yprogram_on_literals}
use Rattle.yspec_examples.proofs.commands.drawn_modules.Goals as goal

pub returns : goal.returns
unfolding yprogram_on_literals
returns c = record {
  network = refl;
  missing = refl;
  prefix = refl;
  refused = refl;
  one = refl;
  all = refl;
  one_refused = refl;
}
