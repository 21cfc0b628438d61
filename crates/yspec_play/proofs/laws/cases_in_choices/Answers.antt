use Rattle.yspec_play.proofs.BelowDataLemmas.{cases_below}
use Rattle.yspec_fit.proofs.PlacedLemmas.{linked_cases}
use Rattle.yspec_play.proofs.laws.cases_in_choices.Goals as goal

pub returns : goal.returns
returns c = record { linked = linked_cases; below = cases_below }
