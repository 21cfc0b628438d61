use Rattle.ylive_retell.proofs.BareLemmas.{bare_still, bare_with_play, top_untold}
use Rattle.ylive_retell.proofs.bare.kept_tops.Goals as goal

pub returns : goal.returns
returns c = record { same = bare_still; play = bare_with_play; news = top_untold }
