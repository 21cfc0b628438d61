use Rattle.std.proofs.Common.{refl}
use Rattle.yspec_run.proofs.ProgramLiterals.{yprogram_on_literals}
use Rattle.yspec_examples.proofs.groupings.counted_nodes.Goals as goal

pub returns : goal.returns
unfolding yprogram_on_literals
returns c = record { doubled = refl; before_refines = λ s below plan h. rw h refl; limit_of_forty = refl; limit = refl; made = refl; implied_cases = refl }
