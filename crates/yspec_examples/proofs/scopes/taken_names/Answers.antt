use Rattle.std.proofs.Common.{refl}
use Rattle.yspec_run.proofs.ProgramLiterals.{yprogram_on_literals}
use Rattle.yspec_examples.proofs.scopes.taken_names.Goals as goal

pub returns : goal.returns
unfolding yprogram_on_literals
returns c = record { twice = refl; kinds_apart = refl; groupings = refl; outer_before = refl; outer_behind = refl; beside = refl; in_itself = refl; built_in = refl; built_in_outside = refl }
