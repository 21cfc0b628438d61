use Rattle.std.proofs.Common.{length, ap, ◌∙◌}
use Rattle.yspec_play.proofs.ListLemmas.{documents_listed, listed_counted}
use Rattle.yspec_play.proofs.laws.counted_faults.Goals as goal

pub returns : goal.returns
returns c = record {
  listed = listed_counted;
  faults = λ schema tree numbered cased fits. ap length (documents_listed schema tree numbered cased fits) ∙ listed_counted schema tree;
}
