use Rattle.std.proofs.Common.{refl}
use Rattle.yspec_run.proofs.ProgramLiterals.{yprogram_on_literals}
use Rattle.yspec_examples.proofs.documents.tuples.Goals as goal

pub returns : goal.returns
unfolding yprogram_on_literals
returns c = record { default_in_a_tuple = refl; equal_keys = refl; through_a_container = refl; no_keys = refl; missing_leaf = refl }
