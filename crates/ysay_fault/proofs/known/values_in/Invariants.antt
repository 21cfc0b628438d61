use Rattle.std.proofs.Common.{◌≡◌, ◌++◌, drop}
use Rattle.yspec.specs.document.Instances.{value_of}
use Rattle.yschema_model.specs.View as schema_view
use Rattle.yinst_tree.specs.View.{row_view}
use Rattle.ysay_fault.specs.FoundFellows.{each_in}
use Rattle.ysay_fault.proofs.known.values_in.Given as goal

-- the values so far with those of the instances that are left
abbrev pub invariant-loop-stored : goal.invariant-loop-stored
invariant-loop-stored l = l.values.items
    ++ each_in l.id.0 (λ r below. value_of (schema_view.view l.schema) r) (row_view (drop l.stored-index l.row))
    ≡ each_in l.id.0 (λ r below. value_of (schema_view.view l.schema) r) (row_view l.row)
