use Rattle.std.proofs.Common.{refl}
use Rattle.yspec_run.proofs.ProgramLiterals.{yprogram_on_literals}
use Rattle.yspec_examples.proofs.scripts.tuples_changed.Goals as goal

pub returns : goal.returns
unfolding yprogram_on_literals
returns c = record { below_a_container = refl; entry_gone = refl; key_again = refl }
