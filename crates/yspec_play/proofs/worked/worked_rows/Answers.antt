use Rattle.std.proofs.Common.{refl}
use Rattle.yspec_play.specs.Absences.{absences_in, defaults_in}
use Rattle.yspec_play.proofs.worked.worked_rows.Goals as goal

pub returns : goal.returns
unfolding absences_in defaults_in
returns c = record { keyless = refl; bare = refl; top = refl; inner_defaults = refl; top_defaults = refl }
