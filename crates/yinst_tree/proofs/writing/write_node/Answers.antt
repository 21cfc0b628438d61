use Rattle.std.proofs.Common.{string_bytes}
use Rattle.std.proofs.lemmas.Result.{IfOk-weaker}
use Rattle.serde_json.specs.View as json
use Rattle.yschema_model.specs.View as schema_view
use Rattle.yinst_tree.specs.View.{view}
use Rattle.yinst_tree.proofs.NodeTextLemmas.{whole_text}
use Rattle.yinst_tree.proofs.writing.write_node.Goals as goal

pub returns : goal.returns
returns c =
    let stored = view c.args.stored.now in
    IfOk-weaker c.to_string.result _ _ (λ text. whole_text (schema_view.view c.args.schema.now) stored.0 stored.1 (json.view c.in_ok-value_of_stored.field-0) (string_bytes text) c.in_ok-value_of_stored.ensures)
    c.to_string.ensures.text
