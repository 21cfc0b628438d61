use Rattle.std.proofs.Common.{refl}
use Rattle.yspec_run.proofs.ProgramLiterals.{yprogram_on_literals}
use Rattle.yspec_examples.proofs.examples.written_documents.Goals as goal

pub returns : goal.returns
unfolding yprogram_on_literals
returns c = record { order = refl; values = refl; nothing = refl; unread = refl }
