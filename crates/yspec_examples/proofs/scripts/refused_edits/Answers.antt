use Rattle.std.proofs.Common.{refl}
use Rattle.yspec_run.proofs.ProgramLiterals.{yprogram_on_literals}
use Rattle.yspec_examples.proofs.scripts.refused_edits.Goals as goal

pub returns : goal.returns
unfolding yprogram_on_literals
returns c = record { nothing_above = refl; in_turn = refl; keys = refl; no_keys = refl }
