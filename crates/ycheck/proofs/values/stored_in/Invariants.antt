use Rattle.std.proofs.Common.{◌≡◌, drop}
use Rattle.yspec.specs.document.Document.{stored_in, row_in}
use Rattle.yinst_tree.specs.View.{row_view}
use Rattle.ycheck.proofs.values.stored_in.Given as goal

-- the first of those that are left is the first of all
abbrev pub invariant-loop-stored : goal.invariant-loop-stored
invariant-loop-stored l = (stored_in l.id.0 (row_view (drop l.stored-index l.row)) ≡ stored_in l.id.0 (row_view l.row))
    × (row_in l.id.0 (row_view (drop l.stored-index l.row)) ≡ row_in l.id.0 (row_view l.row))
