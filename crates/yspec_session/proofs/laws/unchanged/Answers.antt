use Rattle.yspec_session.proofs.SessionLemmas as lemmas
use Rattle.yspec_session.proofs.laws.unchanged.Goals as goal

pub returns : goal.returns
returns c = lemmas.unchanged
