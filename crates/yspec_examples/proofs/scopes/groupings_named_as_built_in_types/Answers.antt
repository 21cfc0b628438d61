use Rattle.std.proofs.Common.{refl}
use Rattle.yspec_run.proofs.ProgramLiterals.{yprogram_on_literals}
use Rattle.yspec_examples.proofs.scopes.groupings_named_as_built_in_types.Goals as goal

pub returns : goal.returns
unfolding yprogram_on_literals
returns c = record {
  unused = refl;
  used = refl;
  outside = refl;
  lost = refl;
}
