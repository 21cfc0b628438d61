use Rattle.std.proofs.Common.{refl}
use Rattle.yspec_run.proofs.ProgramLiterals.{yprogram_on_literals}
use Rattle.yspec_examples.proofs.modules.refused_names.Goals as goal

pub returns : goal.returns
unfolding yprogram_on_literals
returns c = record { prefix = refl; prefix_in_a_path = refl; type_name = refl; own_prefix = refl; before_types = refl; twice = refl; through_a_choice = refl; cases = refl }
