use Rattle.std.proofs.Common.{refl}
use Rattle.ysay_codes.specs.Codes.{explanation_of}
use Rattle.yspec_run.proofs.ProgramLiterals.{yprogram_on_literals}
use Rattle.yspec_examples.proofs.refusals.refused_documents.Goals as goal

pub returns : goal.returns
unfolding yprogram_on_literals explanation_of
returns c = record {
  no_json = refl;
  no_object = refl;
  unknown_name = refl;
  no_module = refl;
  another_kind = refl;
  fraction = refl;
  given_twice = refl;
}
