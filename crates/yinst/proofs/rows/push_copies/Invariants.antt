use Rattle.std.proofs.Common.{◌≡◌, drop}
use Rattle.yspec.specs.Forest.{join}
use Rattle.yinst_tree.specs.View.{row_view}
use Rattle.yinst.proofs.rows.push_copies.Given as goal

abbrev pub invariant-loop-stored : goal.invariant-loop-stored
invariant-loop-stored l = join (row_view l.nodes.items) (row_view (drop l.stored-index l.row)) ≡ join (row_view l.fn.nodes.items) (row_view l.row)
