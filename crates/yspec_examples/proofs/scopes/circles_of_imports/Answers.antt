use Rattle.std.proofs.Common.{refl}
use Rattle.yspec_run.proofs.ProgramLiterals.{yprogram_on_literals}
use Rattle.yspec_examples.proofs.scopes.circles_of_imports.Goals as goal

pub returns : goal.returns
unfolding yprogram_on_literals
returns c = record { itself = refl; two = refl; first_of_two = refl; first_of_two_turned = refl; first_of_three = refl }
