use Rattle.std.proofs.Common.{refl}
use Rattle.yspec_run.proofs.ProgramLiterals.{yprogram_on_literals}
use Rattle.yspec_examples.proofs.documents.amounts.Goals as goal

pub returns : goal.returns
unfolding yprogram_on_literals
returns c = record { too_few = refl; one = refl; too_many = refl }
