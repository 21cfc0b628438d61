use Rattle.std.proofs.Common.{◌≡◌, drop}
use Rattle.yinst_tree.specs.View.{row_view}
use Rattle.ysay_place.specs.Places.{nth_instance}
use Rattle.ysay_place.proofs.place.nth_instance.Given as goal

-- it stands among those that are left, by so much less as instances were passed
abbrev pub invariant-loop-stored : goal.invariant-loop-stored
invariant-loop-stored l = nth_instance l.id.0 l.left (row_view (drop l.stored-index l.fn.row)) ≡ nth_instance l.id.0 l.index (row_view l.fn.row)
