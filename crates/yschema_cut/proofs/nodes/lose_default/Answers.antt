use Rattle.std.proofs.Common.{ap, ◌∙◌}
use Rattle.yschema_expand.specs.NodeView.{part_view, plain_part, with_given}
use Rattle.yschema_expand.proofs.NodeLemmas.{given_last}
use Rattle.yschema_cut.proofs.nodes.lose_default.Goals as goal

pub returns : goal.returns
returns c =
    let node = c.args.node.now in
    ap (λ given. with_given given (plain_part node)) c.in_ok-push.ensures.items
    ∙ given_last node.given.items c.no_default-given.result (plain_part node) _ (c.no_default-given.ensures (part_view node).own)
