use Rattle.std.proofs.Common.{refl}
use Rattle.ysay_pattern.specs.Stop.{stop_from}
use Rattle.ysay_pattern.proofs.examples.places.Goals as goal

pub returns : goal.returns
unfolding stop_from
returns c = record { nowhere = refl; groups = refl; classes = refl; escapes = refl; quantities = refl }
