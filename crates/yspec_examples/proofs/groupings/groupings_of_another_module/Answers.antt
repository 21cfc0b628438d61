use Rattle.std.proofs.Common.{refl}
use Rattle.yspec_run.proofs.ProgramLiterals.{yprogram_on_literals}
use Rattle.yspec_examples.proofs.groupings.groupings_of_another_module.Goals as goal

pub returns : goal.returns
unfolding yprogram_on_literals
returns c = record { nodes = refl; diagram = refl; no_diagram = refl; through_a_third = refl; reference = refl; prefixed_reference = refl; told_where_it_stands = refl; key_and_unique = refl; prefixed_key = refl; key_by_its_own_prefixes = refl; path_by_its_own_prefixes = refl; path_to_its_own_module = refl }
