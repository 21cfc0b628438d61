use Rattle.std.proofs.Common.{◌≡◌, drop}
use Rattle.yspec.specs.edit.Edit.{instance_index}
use Rattle.yspec.specs.edit.Editing.{instance_branch}
use Rattle.yinst_tree.specs.View.{row_view}
use Rattle.yinst.specs.Locating.{spot_view}
use Rattle.yinst.proofs.rows.instance_at.Given as goal

abbrev pub invariant-loop-stored : goal.invariant-loop-stored
invariant-loop-stored l = instance_branch l.spot.id.0 l.left (row_view (drop l.stored-index l.row))
    ≡ instance_branch l.spot.id.0 (instance_index (spot_view l.spot)) (row_view l.row)
