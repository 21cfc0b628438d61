use Rattle.yspec_session.proofs.SessionLemmas.{as_many}
use Rattle.yspec_session.proofs.laws.counts.Goals as goal

pub returns : goal.returns
returns c = as_many
