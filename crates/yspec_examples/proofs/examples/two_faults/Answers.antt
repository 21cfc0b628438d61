use Rattle.std.proofs.Common.{refl}
use Rattle.yspec_run.proofs.ProgramLiterals.{yprogram_on_literals}
use Rattle.yspec_examples.proofs.examples.two_faults.Goals as goal

pub returns : goal.returns
unfolding yprogram_on_literals
returns c = record { both = refl; whatever_the_order_of_members = refl }
