use Rattle.std.proofs.Common.{refl}
use Rattle.yspec_run.proofs.ProgramLiterals.{yprogram_on_literals}
use Rattle.yspec_examples.proofs.augments.documents_of_three_modules.Goals as goal

pub returns : goal.returns
unfolding yprogram_on_literals
returns c = record { nodes = refl; read = refl; without_its_module = refl; of_another_module = refl; fault = refl; edit = refl; refused_edit = refl }
