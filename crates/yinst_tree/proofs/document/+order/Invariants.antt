use Rattle.std.proofs.Common.{◌≡◌, drop}
use Rattle.yinst_tree.specs.Rows.{row_view}
use Rattle.yinst_tree.specs.Order.{ascends_from, is_in_order}
use Rattle.yinst_tree.proofs.document.+order.Given as goal

-- those that are left ascend from the last one on where all ascend
abbrev pub invariant-loop-stored : goal.invariant-loop-stored
invariant-loop-stored l = ascends_from l.least (row_view (drop l.stored-index l.row)) ≡ is_in_order (row_view l.row)
