use Rattle.std.proofs.Common.{refl}
use Rattle.yspec_run.proofs.ProgramLiterals.{yprogram_on_literals}
use Rattle.yspec_examples.proofs.examples.nested_containers.Goals as goal

pub returns : goal.returns
unfolding yprogram_on_literals
returns c = record { none_stored = refl; one_stored = refl; both_stored = refl; good = refl }
