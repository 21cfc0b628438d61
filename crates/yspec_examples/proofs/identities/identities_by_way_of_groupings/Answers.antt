use Rattle.std.proofs.Common.{refl}
use Rattle.yspec_run.proofs.ProgramLiterals.{yprogram_on_literals}
use Rattle.yspec_examples.proofs.identities.identities_by_way_of_groupings.Goals as goal

pub returns : goal.returns
unfolding yprogram_on_literals
returns c = record { plain = refl; with_the_module_of_the_type = refl; base_itself = refl; prefix_in_a_document = refl; members_of_unions = refl; referred_to = refl; default_referred_to = refl; another_referred_to = refl; in_tuples = refl }
