use Rattle.std.proofs.Common.{refl}
use Rattle.yspec_run.proofs.ProgramLiterals.{yprogram_on_literals}
use Rattle.yspec_examples.proofs.augments.drawn_augments.Goals as goal

pub returns : goal.returns
unfolding yprogram_on_literals
returns c = record { in_order = refl; in_turn = refl; one_target = refl; in_a_case = refl; nothing = refl }
