use Rattle.yspec_session.proofs.SessionLemmas.{left}
use Rattle.yspec_session.proofs.laws.refused_requests.Goals as goal

pub returns : goal.returns
returns c = left
