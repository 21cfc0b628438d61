use Rattle.std.proofs.Common.{refl}
use Rattle.yspec_run.proofs.ProgramLiterals.{yprogram_on_literals}
use Rattle.yspec_examples.proofs.examples.unread_files.Goals as goal

pub returns : goal.returns
unfolding yprogram_on_literals
returns c = record { of_a_document = refl; of_a_module = refl }
