use Rattle.std.proofs.Common.{◌∙◌}
use Rattle.yspec.specs.edit.Edit.{instance_index}
use Rattle.yinst.specs.Locating.{spot_view}
use Rattle.yinst.proofs.RowChangeLemmas.{node_taken}
use Rattle.yinst.proofs.rows.without.Goals as goal

pub returns : goal.returns
returns c = c.in_ok-push_copies.ensures
    ∙ node_taken c.args.spot.id.0 (instance_index (spot_view c.args.spot)) c.args.row.now c.split_at_spot.result.0.now c.split_at_spot.result.1.now c.in_ok-nodes.nodes.items c.behind_first.result.now
    c.split_at_spot.ensures.before c.split_at_spot.ensures.from c.in_ok-nodes.ensures c.behind_first.ensures
