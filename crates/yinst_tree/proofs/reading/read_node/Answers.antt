use Rattle.std.proofs.Common.{option_map, ap}
use Rattle.serde_json.specs.View as json
use Rattle.yschema_model.specs.View as schema_view
use Rattle.yinst_tree.specs.View.{view}
use Rattle.yinst_tree.proofs.ApartLemmas.{nodes_apart}
use Rattle.yinst_tree.proofs.TakingLemmas.{denoted_by}
use Rattle.yinst_tree.proofs.reading.read_node.Goals as goal

pub returns-in_ok-stored_node-in-Some-clause-node : goal.returns-in_ok-stored_node-in-Some-clause-node
returns-in_ok-stored_node-in-Some-clause-node c =
    denoted_by (schema_view.view c.args.schema.now) c.args.id.0 _ (schema_view.node_view c.args.id.0 c.in-Some.node.now) (schema_view.row_view c.children.result) (json.view c.args.value)
    (view c.in_ok-stored_node-in-Some.field-0) (nodes_apart c.args.schema.now) (ap (option_map (λ x. schema_view.node_view c.args.id.0 x.now)) c.in-Some.is) c.kind.ensures c.children.ensures c.in_ok-stored_node-in-Some.ensures
