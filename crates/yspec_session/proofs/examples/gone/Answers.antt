use Rattle.std.proofs.Common.{refl}
use Rattle.yspec_session.proofs.examples.gone.Goals as goal

pub returns : goal.returns
returns c = record { stood = refl; stays = refl; is_gone = refl }
