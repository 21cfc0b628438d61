use Rattle.std.proofs.Common.{◌≡◌, ◌+◌, drop}
use Rattle.yspec.specs.edit.Edit.{instance_index}
use Rattle.yinst.specs.Locating.{spot_view}
use Rattle.yinst.specs.Rows.{nth_index}
use Rattle.yinst.proofs.rows.nth_index.Given as goal

abbrev pub invariant-loop-stored : goal.invariant-loop-stored
invariant-loop-stored l = record {
  at : l.at ≡ l.stored-index;
  found : l.at + nth_index l.spot.id.0 l.left (drop l.stored-index l.row) ≡ nth_index l.spot.id.0 (instance_index (spot_view l.spot)) l.row;
}
