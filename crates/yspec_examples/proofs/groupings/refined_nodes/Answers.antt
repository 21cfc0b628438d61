use Rattle.std.proofs.Common.{refl}
use Rattle.yspec_run.proofs.ProgramLiterals.{yprogram_on_literals}
use Rattle.yspec_examples.proofs.groupings.refined_nodes.Goals as goal

pub returns : goal.returns
unfolding yprogram_on_literals
returns c = record { default = refl; default_replaced = refl; all_defaults = refl; amounts = refl; presence = refl; configuration = refl; not_mandatory = refl; choice = refl; one_use_alone = refl }
