use Rattle.std.proofs.Common.{refl}
use Rattle.yspec.specs.linking.Graph.{reached}
use Rattle.ybase_graph.proofs.derivation.a_circle.Goals as goal

pub returns : goal.returns
unfolding reached
returns c = record { around = refl; into = refl; outside = refl }
