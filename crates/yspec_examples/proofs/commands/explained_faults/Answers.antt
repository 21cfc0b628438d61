use Rattle.std.proofs.Common.{refl}
use Rattle.ysay_codes.specs.Codes.{explanation_of}
use Rattle.yspec_run.proofs.ProgramLiterals.{yprogram_on_literals}
use Rattle.yspec_examples.proofs.commands.explained_faults.Goals as goal

pub returns : goal.returns
unfolding yprogram_on_literals explanation_of
returns c = record {
  value = refl;
  inner_message = refl;
  outer_message = refl;
  missing_key = refl;
  missing_case = refl;
  several_cases = refl;
  too_few = refl;
  same_key = refl;
  no_target = refl;
  after_edits = refl;
}
