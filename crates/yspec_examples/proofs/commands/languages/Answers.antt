use Rattle.std.proofs.Common.{refl}
use Rattle.yspec_run.proofs.ProgramLiterals.{yprogram_on_literals}
use Rattle.yspec_examples.proofs.commands.languages.Goals as goal

pub returns : goal.returns
unfolding yprogram_on_literals
returns c = record {
  counted_in_the_core = refl;
  counted_with_all = refl;
  counted_without = refl;
  counted_under_another_name = refl;
  validated_with_all = refl;
  validated_without = refl;
  core_modules = refl;
}
