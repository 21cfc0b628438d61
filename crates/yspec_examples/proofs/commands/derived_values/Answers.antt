use Rattle.std.proofs.Common.{refl}
use Rattle.yspec_run.proofs.ProgramLiterals.{yprogram_on_literals}
use Rattle.yspec_examples.proofs.commands.derived_values.Goals as goal

pub returns : goal.returns
unfolding yprogram_on_literals
returns c = record { in_a_container = refl; reference = refl; members = refl; of_another = refl }
