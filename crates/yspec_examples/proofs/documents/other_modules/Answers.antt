use Rattle.std.proofs.Common.{refl}
use Rattle.yspec_run.proofs.ProgramLiterals.{yprogram_on_literals}
use Rattle.yspec_examples.proofs.documents.other_modules.Goals as goal

pub returns : goal.returns
unfolding yprogram_on_literals
returns c = record { largest = refl; too_large = refl; qualified = refl; unqualified = refl }
