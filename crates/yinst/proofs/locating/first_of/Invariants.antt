use Rattle.std.proofs.Common.{◌≡◌, drop}
use Rattle.yspec.specs.document.Document.{stored_in}
use Rattle.yinst_tree.specs.View.{row_view}
use Rattle.yinst.proofs.locating.first_of.Given as goal

abbrev pub invariant-loop-stored : goal.invariant-loop-stored
invariant-loop-stored l = stored_in l.id.0 (row_view (drop l.stored-index l.row)) ≡ stored_in l.id.0 (row_view l.row)
