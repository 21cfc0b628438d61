use Rattle.std.proofs.Common.{refl}
use Rattle.yspec_run.proofs.ProgramLiterals.{yprogram_on_literals}
use Rattle.yspec_examples.proofs.identities.identities_of_two_modules.Goals as goal

pub returns : goal.returns
unfolding yprogram_on_literals
returns c = record { derived = refl; two_bases = refl; one_of_two = refl; with_its_module = refl; of_another_module = refl; not_quite_names = refl }
