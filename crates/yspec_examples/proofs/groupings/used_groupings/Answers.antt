use Rattle.std.proofs.Common.{refl}
use Rattle.yspec_run.proofs.ProgramLiterals.{yprogram_on_literals}
use Rattle.yspec_examples.proofs.groupings.used_groupings.Goals as goal

pub returns : goal.returns
unfolding yprogram_on_literals
returns c = record { nested = refl; in_order = refl; status_and_config_of_its_own = refl; typedefs = refl; keys = refl; cases = refl; empty = refl }
