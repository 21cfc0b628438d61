use Rattle.yspec.proofs.DocumentProofs.SortingLemmas.{in_order}
use Rattle.yschema_model.specs.View as schema_view
use Rattle.yinst_tree.specs.View.{tree_view}
use Rattle.ycheck_config.proofs.ConfigurationLemmas.{whole_is}
use Rattle.ycheck_config.proofs.inspecting.inspect.Goals as goal

pub returns-clause-inspected : goal.returns-clause-inspected
returns-clause-inspected c =
    let s = schema_view.view c.args.schema in
    let t = tree_view c.args.tree in
    whole_is s t _ c.args.of_configuration c.if-of_configuration.false (c.in_ok-faults.ensures (in_order s t c.requires))
