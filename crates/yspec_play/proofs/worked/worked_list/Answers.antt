use Rattle.std.proofs.Common.{refl}
use Rattle.yspec.specs.document.Play.{items_in_play}
use Rattle.yspec.specs.document.Faults.{faults_of, told_in}
use Rattle.yspec_play.specs.Absences.{absences_in}
use Rattle.yspec_play.specs.Merging.{listed, listed_in}
use Rattle.yspec.proofs.LiteralLemmas.{yspec_on_literals}
use Rattle.yspec_play.proofs.worked.worked_list.Goals as goal

pub returns : goal.returns
unfolding yspec_on_literals absences_in listed listed_in faults_of told_in items_in_play
returns c = record { listed = refl; played = refl }
