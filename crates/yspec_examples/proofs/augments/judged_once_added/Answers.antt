use Rattle.std.proofs.Common.{refl}
use Rattle.yspec_run.proofs.ProgramLiterals.{yprogram_on_literals}
use Rattle.yspec_examples.proofs.augments.judged_once_added.Goals as goal

pub returns : goal.returns
unfolding yprogram_on_literals
returns c = record { reference = refl; default_case = refl; default_case_of_another = refl; mandatory_in_a_default_case = refl; configuration_below_state = refl; no_key = refl }
