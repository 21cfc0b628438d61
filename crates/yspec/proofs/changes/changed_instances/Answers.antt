use Rattle.yspec.proofs.ChangeLemmas.{times_framed}
use Rattle.yspec.proofs.changes.changed_instances.Goals as goal

pub returns : goal.returns
returns c = times_framed
