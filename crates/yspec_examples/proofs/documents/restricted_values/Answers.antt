use Rattle.std.proofs.Common.{refl}
use Rattle.yspec_run.proofs.ProgramLiterals.{yprogram_on_literals}
use Rattle.yspec_examples.proofs.documents.restricted_values.Goals as goal

pub returns : goal.returns
unfolding yprogram_on_literals
returns c = record { outside = refl; last = refl; alone = refl; outside_itself = refl }
