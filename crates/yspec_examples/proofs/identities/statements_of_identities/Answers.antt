use Rattle.std.proofs.Common.{refl}
use Rattle.yspec_run.proofs.ProgramLiterals.{yprogram_on_literals}
use Rattle.yspec_examples.proofs.identities.statements_of_identities.Goals as goal

pub returns : goal.returns
unfolding yprogram_on_literals
returns c = record { in_a_container = refl; base_alone = refl; below_a_base = refl; no_identifier = refl; unknown_prefix = refl; twice = refl; in_two_modules = refl; as_a_typedef = refl; unknown_base = refl; a_typedef_is_no_base = refl; unknown_base_of_a_type = refl; own_prefix = refl; its_own_base = refl; a_circle = refl; into_a_circle = refl; the_name_of_the_type = refl }
