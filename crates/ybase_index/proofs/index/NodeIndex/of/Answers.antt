use Rattle.ybase_index.specs.Names.{number_among, text_in}
use Rattle.ybase_index.proofs.NameLemmas.{none_found}
use Rattle.std.proofs.Common.{map}
use Rattle.ybase_index.proofs.index.NodeIndex.of.Goals as goal

pub returns-clause-nodes : goal.returns-clause-nodes
returns-clause-nodes c among above m name =
    none_found (number_among (text_in (map (λ t. t.now) c.args.texts.items)) c.in_ok-names.names.ordered.items) c.in_ok-nodes.nodes among above m name
    (c.in_ok-nodes.ensures among)
