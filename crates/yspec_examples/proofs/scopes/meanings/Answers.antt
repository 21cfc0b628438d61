use Rattle.std.proofs.Common.{refl}
use Rattle.yspec_run.proofs.ProgramLiterals.{yprogram_on_literals}
use Rattle.yspec_examples.proofs.scopes.meanings.Goals as goal

pub returns : goal.returns
unfolding yprogram_on_literals
returns c = record { inner = refl; behind = refl; of_another = refl; a_grouping = refl; none_for_built_in = refl; beside = refl; inner_of_another = refl; without_the_module = refl; own_prefix_of_built_in = refl; lost_grouping = refl; unused = refl }
