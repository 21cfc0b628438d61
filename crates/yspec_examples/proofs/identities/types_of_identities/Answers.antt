use Rattle.std.proofs.Common.{refl}
use Rattle.yspec_run.proofs.ProgramLiterals.{yprogram_on_literals}
use Rattle.yspec_examples.proofs.identities.types_of_identities.Goals as goal

pub returns : goal.returns
unfolding yprogram_on_literals
returns c = record { without_a_base = refl; base_of_another_type = refl; base_of_a_derived_type = refl; length_of_a_derived_type = refl; range = refl }
