use Rattle.std.proofs.Common.{sym, subst}
use Rattle.ybase_words.specs.KeywordView.{keyword_view}
use Rattle.yschema_expand.specs.NamedView.{row_or_none}
use Rattle.yschema_expand.specs.NodeView.{part_view, plain_part}
use Rattle.yschema_given.specs.GivenView.{stated_after}
use Rattle.yschema_given.specs.Stating.{SameFor}
use Rattle.yschema_given.proofs.StatingLemmas.{own_same, stated_same, turned, next_given}
use Rattle.yschema_expand.proofs.nodes.ExpandedNode.row_stating.Goals as goal

pub loop-given-init : goal.loop-given-init
loop-given-init c =
    let k = keyword_view c.args.keyword in
    let node = c.args.self.now in
    let own = row_or_none c.own-stating.result in
    let plain = (plain_part node).own in
    let same : SameFor k own plain = turned k plain own (subst (λ f. SameFor k f own) c.own-stating.ensures (own_same k c.requires.node own)) in
    subst (λ items. SameFor k (stated_after own items) (part_view node).own) (sym c.deref-given-items.ensures.value)
    (stated_same k c.requires.condition node.given.items own plain same)

pub loop-given-preserved : goal.loop-given-preserved
loop-given-preserved c =
    let k = keyword_view c.args.keyword in
    next_given k c.requires.condition c.deref-given-items.result.now c.loop-given.given-index c.given-item.result
    (row_or_none c.loop-given.stating) (row_or_none c.row_stating-stating.result) (part_view c.args.self.now).own
    c.loop-given-test.true c.given-item.is c.row_stating-stating.ensures c.loop-given.invariant
