use Rattle.yspec.proofs.ChangeLemmas.{sum_changed, framed}
use Rattle.yspec.proofs.changes.changed_sums.Goals as goal

pub returns : goal.returns
returns c c' = record {
  labels = sum_changed;
  local = λ weight top steps change f p is_local tops led. framed weight is_local steps change top f p tops led;
}
