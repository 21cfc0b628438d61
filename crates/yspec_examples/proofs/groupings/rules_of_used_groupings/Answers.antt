use Rattle.std.proofs.Common.{refl}
use Rattle.yspec_run.proofs.ProgramLiterals.{yprogram_on_literals}
use Rattle.yspec_examples.proofs.groupings.rules_of_used_groupings.Goals as goal

pub returns : goal.returns
unfolding yprogram_on_literals
returns c = record { itself = refl; lost = refl; unknown_prefix = refl; twice = refl; twice_used = refl; default = refl; unused = refl; configuration_below_state = refl; no_key = refl; no_key_of_state = refl }
