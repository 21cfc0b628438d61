use Rattle.std.proofs.Common.{refl}
use Rattle.yspec.specs.linking.Graph.{reached}
use Rattle.ybase_graph.proofs.derivation.two_bases.Goals as goal

pub returns : goal.returns
unfolding reached
returns c = record { first = refl; second = refl; further = refl; itself = refl; back = refl; beside = refl }
