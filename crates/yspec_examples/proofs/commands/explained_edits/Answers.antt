use Rattle.std.proofs.Common.{refl}
use Rattle.ysay_codes.specs.Codes.{explanation_of}
use Rattle.yspec_run.proofs.ProgramLiterals.{yprogram_on_literals}
use Rattle.yspec_examples.proofs.commands.explained_edits.Goals as goal

pub returns : goal.returns
unfolding yprogram_on_literals explanation_of
returns c = record {
  near = refl;
  far = refl;
  without_module = refl;
  with_module = refl;
  member = refl;
  other_member = refl;
  value = refl;
  no_edit = refl;
  predicate = refl;
  no_json = refl;
  stored = refl;
  not_stored = refl;
}
