use Rattle.std.proofs.Common.{refl}
use Rattle.yspec_run.proofs.ProgramLiterals.{yprogram_on_literals}
use Rattle.yspec_examples.proofs.augments.counted_augments.Goals as goal

pub returns : goal.returns
unfolding yprogram_on_literals
returns c = record { bodies = refl; single_nodes = refl; implied_cases = refl; left = refl; used = refl }
