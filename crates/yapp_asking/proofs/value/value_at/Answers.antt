use Rattle.yschema_model.specs.View as schema_view
use Rattle.yinst_tree.specs.View.{tree_view}
use Rattle.yinst_path.specs.EditView.{path_view}
use Rattle.yapp_asking.proofs.ValueLemmas.{found_sorted}
use Rattle.yapp_asking.proofs.value.value_at.Goals as goal

pub returns-clause-sorted : goal.returns-clause-sorted
returns-clause-sorted c sorted =
    found_sorted (schema_view.view c.args.schema.now) (tree_view c.args.tree.now) (path_view c.args.path.now) c.found_at.result c.found_at.ensures sorted
