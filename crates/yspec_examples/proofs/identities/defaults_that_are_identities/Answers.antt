use Rattle.std.proofs.Common.{refl}
use Rattle.yspec_run.proofs.ProgramLiterals.{yprogram_on_literals}
use Rattle.yspec_examples.proofs.identities.defaults_that_are_identities.Goals as goal

pub returns : goal.returns
unfolding yprogram_on_literals
returns c = record { the_base = refl; own_prefix = refl; unknown_prefix = refl; a_modules_name = refl; of_the_leafs_module = refl }
