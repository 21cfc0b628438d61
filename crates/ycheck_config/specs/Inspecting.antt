-- What is looked at of a document, as the definition's.
use Rattle.yspec.specs.document.StateData.{Inspected}
use Rattle.yschema_model.specs.View as schema_view
use Rattle.yinst_tree.specs.View.{tree_view}
use Rattle.ycheck.specs.View.{views}
use Rattle.ycheck_config.specs.declared.inspecting.Inspection.{Inspection}

abbrev pub inspection_view : Inspection → Inspected
inspection_view i = record { schema = schema_view.view i.schema; tree = tree_view i.tree; faults = views i.faults.items }
