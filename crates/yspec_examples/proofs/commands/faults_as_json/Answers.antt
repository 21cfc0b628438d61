use Rattle.std.proofs.Common.{refl}
use Rattle.yspec_run.proofs.ProgramLiterals.{yprogram_on_literals}
use Rattle.yspec_examples.proofs.commands.faults_as_json.Goals as goal

pub returns : goal.returns
unfolding yprogram_on_literals
returns c = record {
  value = refl;
  own_message = refl;
  missing_case = refl;
  none = refl;
  with_reasons = refl;
  dump = refl;
}
