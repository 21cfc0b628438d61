use Rattle.std.proofs.Common.{◌≡◌, ◌+◌, drop}
use Rattle.yspec.specs.Forest.{size}
use Rattle.yinst_tree.specs.View.{row_view}
use Rattle.yinst.proofs.rows.+count.Given as goal

abbrev pub invariant-loop-stored : goal.invariant-loop-stored
invariant-loop-stored l = l.fn.most + size (row_view (drop l.stored-index l.row)) ≡ l.left + size (row_view l.row)
