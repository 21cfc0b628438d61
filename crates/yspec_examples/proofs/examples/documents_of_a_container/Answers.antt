use Rattle.std.proofs.Common.{refl}
use Rattle.yspec_run.proofs.ProgramLiterals.{yprogram_on_literals}
use Rattle.yspec_examples.proofs.examples.documents_of_a_container.Goals as goal

pub returns : goal.returns
unfolding yprogram_on_literals
returns c = record { missing = refl; out_of_range = refl; good = refl; implied = refl; implied_of_int32 = refl; good_of_int32 = refl }
