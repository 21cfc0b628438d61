use Rattle.yspec_session.proofs.SessionLemmas as lemmas
use Rattle.yspec_session.proofs.laws.all_fallen.Goals as goal

pub returns : goal.returns
returns c = lemmas.all_fallen
