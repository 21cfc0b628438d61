use Rattle.std.proofs.Common.{refl}
use Rattle.yspec_run.proofs.ProgramLiterals.{yprogram_on_literals}
use Rattle.yspec_examples.proofs.modules.schemas_of_texts.Goals as goal

pub returns : goal.returns
unfolding yprogram_on_literals
returns c = record { net = refl; default_case = refl; unique_through_a_container = refl; members = refl; digits = refl }
