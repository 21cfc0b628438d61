use Rattle.std.proofs.Common.{◌+◌}
use Rattle.yspec.specs.Forest.{size}
use Rattle.yspec_play.specs.Absences.{absences_in}
use Rattle.yspec_play.proofs.AbsenceLemmas.{absences_between, between_ascends, few_absences}
use Rattle.yspec_play.proofs.laws.absences_in_order.Goals as goal

pub returns : goal.returns
returns c = record {
  order = λ children least stored chosen numbered. between_ascends least (least + size children) (absences_in stored chosen children)
      (absences_between children least stored chosen numbered);
  few = few_absences;
}
