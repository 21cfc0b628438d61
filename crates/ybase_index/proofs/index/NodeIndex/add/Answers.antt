use Rattle.std.proofs.Common.{length, refl, arith}
use Rattle.std.proofs.lemmas.Option.{slice_get_read}
use Rattle.ybase_index.specs.Index.{named, texts_of}
use Rattle.ybase_index.specs.Names.{text_in}
use Rattle.ybase_index.proofs.KeyLemmas.{on_ok}
use Rattle.ybase_index.proofs.NameLemmas.{apart_among, found_after}
use Rattle.ybase_index.proofs.index.NodeIndex.add.Goals as goal

pub returns-clause-nodes : goal.returns-clause-nodes
returns-clause-nodes c =
    let index = c.args.self.now in
    let node = c.args.node in
    let kept = index.names.of_nodes.items in
    let given = c.index-name.result.now in
    let there = slice_get_read kept (length kept) node.number given refl (omega arith) c.index-name.ensures in
    let text = text_in (texts_of index) node.number in
    on_ok c.add.result c.add.ensures.added
    (λ added among above m t. found_after node text among above m (named index) given index.nodes c.add.new.self
    (apart_among (text_in (texts_of index)) index.names.ordered.items) (index.named.2 node.number given there) (added among) t)
