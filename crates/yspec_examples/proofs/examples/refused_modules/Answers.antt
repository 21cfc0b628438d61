use Rattle.std.proofs.Common.{refl}
use Rattle.yspec_run.proofs.ProgramLiterals.{yprogram_on_literals}
use Rattle.yspec_examples.proofs.examples.refused_modules.Goals as goal

pub returns : goal.returns
unfolding yprogram_on_literals
returns c = record { type_outside = refl; two_types = refl; no_name = refl; other_version = refl; one_name_twice = refl; least_line = refl; text = refl }
