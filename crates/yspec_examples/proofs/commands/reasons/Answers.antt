use Rattle.std.proofs.Common.{refl}
use Rattle.ysay_codes.specs.Codes.{explanation_of}
use Rattle.yspec_run.proofs.ProgramLiterals.{yprogram_on_literals}
use Rattle.yspec_examples.proofs.commands.reasons.Goals as goal

pub returns : goal.returns
unfolding yprogram_on_literals explanation_of
returns c = record {
  of_a_fault = refl;
  unasked = refl;
  of_a_value = refl;
  of_a_text = refl;
  of_a_slip = refl;
  of_a_word = refl;
  of_a_keyword = refl;
  of_a_place = refl;
  of_a_rule = refl;
  of_an_argument = refl;
  of_a_code = refl;
  in_small_letters = refl;
  of_no_code = refl;
}
