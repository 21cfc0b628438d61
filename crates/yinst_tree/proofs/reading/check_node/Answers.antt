use Rattle.std.proofs.Common.{Ok, Err, ap}
use Rattle.serde_json.specs.View as json
use Rattle.yschema_model.specs.View as schema_view
use Rattle.yinst_tree.specs.View.{place_view}
use Rattle.yinst_tree.proofs.VisitLemmas.{refused_whole}
use Rattle.yinst_tree.proofs.reading.check_node.Goals as goal

pub returns : goal.returns
returns c =
    refused_whole (schema_view.view c.args.schema.now) c.args.id.0 (place_view c.new-place.result.items) (json.view c.args.value.now) (Err c.in-Err.fault) (ap place_view c.new-place.ensures.items)
    c.in-Err.ensures.told

pub returns-in-Ok : goal.returns-in-Ok
returns-in-Ok c =
    refused_whole (schema_view.view c.args.schema.now) c.args.id.0 (place_view c.new-place.result.items) (json.view c.args.value.now) (Ok c.in-Ok.field-0) (ap place_view c.new-place.ensures.items)
    c.in-Ok.ensures.told
