use Rattle.std.proofs.Common.{refl}
use Rattle.ysay_codes.specs.Codes.{explanation_of}
use Rattle.yspec_run.proofs.ProgramLiterals.{yprogram_on_literals}
use Rattle.yspec_examples.proofs.commands.explained_refusals.Goals as goal

pub returns : goal.returns
unfolding yprogram_on_literals explanation_of
returns c = record {
  near = refl;
  far = refl;
  without_module = refl;
  with_module = refl;
  another_kind = refl;
  before_edits = refl;
  number = refl;
  no_json = refl;
  nothing_more = refl;
}
