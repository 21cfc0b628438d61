use Rattle.std.proofs.Common.{refl}
use Rattle.yspec_run.proofs.ProgramLiterals.{yprogram_on_literals}
use Rattle.yspec_examples.proofs.documents.limited_rooms.Goals as goal

pub returns : goal.returns
unfolding yprogram_on_literals
returns c = record { room_for_all = refl; one_too_many = refl; refused_before = refl; refused_behind = refl }
