use Rattle.std.proofs.Common.{ap₂, ◌∙◌}
use Rattle.ylink_names.specs.EdgeView.{edge_by}
use Rattle.ylink_names.proofs.EdgeLemmas.{next_edge}
use Rattle.ylink_names.proofs.references.edges_by_number.Goals as goal

pub loop-number-preserved : goal.loop-number-preserved
loop-number-preserved c =
    next_edge c.args.holders.now c.args.meanings.now c.loop-number.number c.loop-number.made.items _ c.push.new.self.items c.edge_of.result c.loop-number-test.true
    c.in_ok-push.ensures.items (c.edge_of.ensures ∙ ap₂ edge_by c.meaning_at-holder.ensures c.meaning_at.ensures) c.loop-number.invariant
