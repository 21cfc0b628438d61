use Rattle.ylive_marks.proofs.LawLemmas.{climbs_beside, climbs_inside}
use Rattle.ylive_marks.proofs.TotalLemmas.{totals_same}
use Rattle.ylive_marks.proofs.laws.kept_totals.Goals as goal

pub returns : goal.returns
returns c = record { totals = λ before after f same all. totals_same before after same f all; climbs = climbs_beside; beside = climbs_inside }
