use Rattle.std.proofs.Common.{refl}
use Rattle.yspec_run.proofs.ProgramLiterals.{yprogram_on_literals}
use Rattle.yspec_examples.proofs.augments.nodes_of_three_modules.Goals as goal

pub returns : goal.returns
unfolding yprogram_on_literals
returns c = record { nodes = refl; of_the_container = refl; of_the_second = refl; of_the_third = refl }
