use Rattle.std.proofs.Common.{◌≡◌, drop}
use Rattle.yspec.specs.edit.Editing.{row_at}
use Rattle.yinst_tree.specs.View.{row_view}
use Rattle.yinst.proofs.locating.row_at.Given as goal

abbrev pub invariant-loop-stored : goal.invariant-loop-stored
invariant-loop-stored l = row_at l.id.0 l.left (row_view (drop l.stored-index l.row)) ≡ row_at l.id.0 l.fn.place (row_view l.row)
