use Rattle.std.proofs.Common.{refl}
use Rattle.yspec_run.proofs.ProgramLiterals.{yprogram_on_literals}
use Rattle.yspec_examples.proofs.commands.saved_documents.Goals as goal

pub returns : goal.returns
unfolding yprogram_on_literals
returns c = record {
  good = refl;
  with_a_fault = refl;
  with_a_refused_edit = refl;
  dumped = refl;
  with_its_state = refl;
  refused = refl;
}
