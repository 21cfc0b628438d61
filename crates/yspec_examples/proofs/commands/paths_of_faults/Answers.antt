use Rattle.std.proofs.Common.{refl}
use Rattle.ysay_codes.specs.Codes.{explanation_of}
use Rattle.yspec_run.proofs.ProgramLiterals.{yprogram_on_literals}
use Rattle.yspec_examples.proofs.commands.paths_of_faults.Goals as goal

pub returns : goal.returns
unfolding yprogram_on_literals explanation_of
returns c = record {
  canonical = refl;
  taken = refl;
  invalid = refl;
  single_quote = refl;
  double_quote = refl;
  both_quotes = refl;
  control = refl;
  item = refl;
  message = refl;
  by_position = refl;
}
