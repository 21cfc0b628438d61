use Rattle.ybase_graph.proofs.DerivationLaws.{derives_so}
use Rattle.ybase_graph.proofs.derivation.derives_by_edges.Goals as goal

pub returns : goal.returns
returns c = derives_so
