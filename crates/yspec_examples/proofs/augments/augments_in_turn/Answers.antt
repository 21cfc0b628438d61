use Rattle.std.proofs.Common.{refl}
use Rattle.yspec_run.proofs.ProgramLiterals.{yprogram_on_literals}
use Rattle.yspec_examples.proofs.augments.augments_in_turn.Goals as goal

pub returns : goal.returns
unfolding yprogram_on_literals
returns c = record { in_order = refl; the_first = refl; one_by_one = refl; of_modules = refl }
