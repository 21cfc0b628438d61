use Rattle.std.proofs.Common.{refl}
use Rattle.yspec_run.proofs.ProgramLiterals.{yprogram_on_literals}
use Rattle.yspec_examples.proofs.scripts.entries_removed.Goals as goal

pub returns : goal.returns
unfolding yprogram_on_literals
returns c = record { positions = refl; equal_keys = refl; fewer = refl; last_entry = refl; container_stays = refl }
