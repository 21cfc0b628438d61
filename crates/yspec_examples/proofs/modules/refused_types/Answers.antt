use Rattle.std.proofs.Common.{refl}
use Rattle.yspec_run.proofs.ProgramLiterals.{yprogram_on_literals}
use Rattle.yspec_examples.proofs.modules.refused_types.Goals as goal

pub returns : goal.returns
unfolding yprogram_on_literals
returns c = record { descending = refl; out_of_place = refl; no_digits = refl; no_enum = refl; no_path = refl; no_member = refl; member = refl; member_leafref = refl }
