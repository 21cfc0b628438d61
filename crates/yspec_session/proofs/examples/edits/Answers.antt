use Rattle.std.proofs.Common.{refl}
use Rattle.yspec.proofs.LiteralLemmas.{yspec_on_literals}
use Rattle.yspec_session.proofs.examples.edits.Goals as goal

pub returns : goal.returns
unfolding yspec_on_literals
returns c = record { moves_up = refl; moved = refl; moved_behind = refl; removed = refl; created = refl; another_entry = refl; refused_edits = refl }
