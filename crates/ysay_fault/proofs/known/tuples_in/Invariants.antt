use Rattle.std.proofs.Common.{◌≡◌, ◌++◌, drop, map}
use Rattle.std.specs.Prelude.{option_map}
use Rattle.yspec.specs.document.Instances.{tuple}
use Rattle.yschema_model.specs.View as schema_view
use Rattle.yinst_tree.specs.View.{row_view}
use Rattle.ysay_fault.specs.FoundFellows.{each_in}
use Rattle.ysay_fault.proofs.known.tuples_in.Given as goal

-- the tuples so far with those of the instances that are left
abbrev pub invariant-loop-stored : goal.invariant-loop-stored
invariant-loop-stored l = map (option_map (λ vs. vs.items)) l.tuples.items
    ++ each_in l.id.0 (λ r below. tuple (schema_view.view l.schema) r below l.number) (row_view (drop l.stored-index l.row))
    ≡ each_in l.id.0 (λ r below. tuple (schema_view.view l.schema) r below l.number) (row_view l.row)
