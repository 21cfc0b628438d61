use Rattle.std.proofs.Common.{◌≡◌, drop}
use Rattle.yspec.specs.Forest.{join}
use Rattle.yspec.specs.document.StateData.{configuration_tree}
use Rattle.yschema_model.specs.View as schema_view
use Rattle.yinst_tree.specs.View.{row_view}
use Rattle.ycheck_config.proofs.without.+configuration.Given as goal

-- what is kept so far, with what is kept of the rest
abbrev pub invariant-configuration_row-loop-stored : goal.invariant-configuration_row-loop-stored
invariant-configuration_row-loop-stored l =
    let s = schema_view.view l.schema in
    join (row_view l.nodes.items) (configuration_tree s (row_view (drop l.stored-index l.row))) ≡ configuration_tree s (row_view l.row)
