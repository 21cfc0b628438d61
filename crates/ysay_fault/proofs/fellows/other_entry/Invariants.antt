use Rattle.std.proofs.Common.{◌≡◌, ◌+◌, ◌≤◌, drop}
use Rattle.yspec.specs.document.Document.{instances}
use Rattle.yspec.specs.document.Instances.{tuple, is_tuple}
use Rattle.yschema_model.specs.View.{view}
use Rattle.yinst_tree.specs.View.{row_view}
use Rattle.ysay_fault.specs.Fellows.{first_other, fellow_by}
use Rattle.ysay_fault.proofs.fellows.other_entry.Given as goal

-- the first of those that are left is the first of all, and fewer instances than nodes were passed
abbrev pub invariant-loop-stored : goal.invariant-loop-stored
invariant-loop-stored l = (first_other l.own l.position (λ r below. is_tuple l.wanted (tuple (view l.schema) r below l.number))
    (instances l.id.0 (row_view (drop l.stored-index l.row)))
    ≡ fellow_by (λ r below. is_tuple l.wanted (tuple (view l.schema) r below l.number)) (row_view l.row) l.id.0 l.own)
    × (l.position ≤ l.stored-index + 1)
