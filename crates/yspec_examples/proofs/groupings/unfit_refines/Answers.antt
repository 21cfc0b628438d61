use Rattle.std.proofs.Common.{refl}
use Rattle.yspec_run.proofs.ProgramLiterals.{yprogram_on_literals}
use Rattle.yspec_examples.proofs.groupings.unfit_refines.Goals as goal

pub returns : goal.returns
unfolding yprogram_on_literals
returns c = record { no_target = refl; no_way = refl; not_in_the_grouping = refl; presence_of_a_leaf = refl; default_of_a_container = refl; amount_of_a_leaf = refl; mandatory_list = refl; two_defaults = refl; two_default_cases = refl; an_implied_case = refl; no_case = refl; nothing_changed = refl; in_a_grouping = refl; without_nodes = refl; unused = refl; before_names = refl; unknown_prefix = refl }
