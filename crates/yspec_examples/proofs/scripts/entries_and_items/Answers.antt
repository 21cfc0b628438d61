use Rattle.std.proofs.Common.{refl}
use Rattle.yspec_run.proofs.ProgramLiterals.{yprogram_on_literals}
use Rattle.yspec_examples.proofs.scripts.entries_and_items.Goals as goal

pub returns : goal.returns
unfolding yprogram_on_literals
returns c = record { by_key = refl; entry = refl; items = refl; last_item = refl; no_items = refl }
