use Rattle.std.proofs.Common.{refl}
use Rattle.ysay_codes.specs.Codes.{explanation_of}
use Rattle.yspec_run.proofs.ProgramLiterals.{yprogram_on_literals}
use Rattle.yspec_examples.proofs.refusals.error_tags.Goals as goal

pub returns : goal.returns
unfolding yprogram_on_literals explanation_of
returns c = record {
  modules = refl;
  documents = refl;
  edits = refl;
}
