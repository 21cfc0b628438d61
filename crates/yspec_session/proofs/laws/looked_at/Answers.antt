use Rattle.yspec_session.proofs.SessionLemmas.{same_left, told}
use Rattle.yspec_session.proofs.laws.looked_at.Goals as goal

pub returns : goal.returns
returns c = record { told = told; left = same_left }
