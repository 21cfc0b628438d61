use Rattle.std.proofs.Common.{◌≡◌, ◌+◌, ◌≤◌, drop}
use Rattle.yspec.specs.document.Document.{instances_in}
use Rattle.yinst_tree.specs.View.{row_view}
use Rattle.ysay_place.proofs.place.count_of.Given as goal

abbrev pub invariant-loop-stored : goal.invariant-loop-stored
invariant-loop-stored l = (l.count + instances_in (row_view (drop l.stored-index l.row)) l.id.0 ≡ instances_in (row_view l.row) l.id.0)
    × (l.count ≤ l.stored-index)
