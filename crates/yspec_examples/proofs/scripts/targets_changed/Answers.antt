use Rattle.std.proofs.Common.{refl}
use Rattle.yspec_run.proofs.ProgramLiterals.{yprogram_on_literals}
use Rattle.yspec_examples.proofs.scripts.targets_changed.Goals as goal

pub returns : goal.returns
unfolding yprogram_on_literals
returns c = record { default_gone = refl; default_again = refl; entry_gone = refl; entry_replaced = refl; case_chosen = refl; case_again = refl }
