use Rattle.std.proofs.Common.{refl}
use Rattle.yspec_run.proofs.ProgramLiterals.{yprogram_on_literals}
use Rattle.yspec_examples.proofs.scopes.derived_types.Goals as goal

pub returns : goal.returns
unfolding yprogram_on_literals
returns c = record { chain = refl; wider = refl; by_the_typedef = refl; not_judged_behind = refl; in_a_list_of_a_grouping = refl; length_of_a_number = refl; enum_of_a_derived_type = refl; leafref_member = refl; instance_required = refl; instance_required_again = refl; path_of_another = refl; range_of_a_reference = refl; length_of_a_reference = refl; path_of_a_reference = refl }
