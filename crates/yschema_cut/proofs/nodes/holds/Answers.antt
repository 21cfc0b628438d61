use Rattle.std.proofs.Common.{◌≡◌, take, sym, ap, ◌∙◌, arith}
use Rattle.yschema_expand.specs.NodeView.{plain_part}
use Rattle.yschema_given.specs.GivenView.{stated_after}
use Rattle.yschema_given.specs.Holding.{holds_in, kept_hold}
use Rattle.yschema_cut.proofs.NodeLemmas.{stated_more, stated_all}
use Rattle.yschema_cut.proofs.nodes.holds.Goals as goal

pub loop-given-preserved : goal.loop-given-preserved
loop-given-preserved c =
    let own = (plain_part c.args.node.now).own in
    let items = c.deref-given-items.result.now in
    let i = c.loop-given.given-index in
    c.stands-holds.ensures (stated_after own (take i items)) c.loop-given.invariant
    ∙ ap (kept_hold (holds_in c.args.holding.now)) (sym (stated_more own items i c.given-item.result c.loop-given-test.true c.given-item.is))

pub returns : goal.returns
returns c =
    let own = (plain_part c.args.node.now).own in
    let items = c.deref-given-items.result.now in
    c.loop-given.invariant
    ∙ ap (kept_hold (holds_in c.args.holding.now)) (stated_all own items c.loop-given.given-index (omega (arith, c.loop-given-test.false))
    ∙ ap (stated_after own) c.deref-given-items.ensures.value)
