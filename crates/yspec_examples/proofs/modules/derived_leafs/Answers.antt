use Rattle.std.proofs.Common.{refl}
use Rattle.yspec_run.proofs.ProgramLiterals.{yprogram_on_literals}
use Rattle.yspec_examples.proofs.modules.derived_leafs.Goals as goal

pub returns : goal.returns
unfolding yprogram_on_literals
returns c = record { default_refused = refl; own_default_first = refl; no_default_beside_mandatory = refl; of_a_leaf_list = refl; unused_default = refl; lost_in_a_grouping = refl; circular = refl; no_default_of_items_that_are_due = refl; default_of_items = refl; reference_at_the_leaf = refl }
