use Rattle.std.proofs.Common.{string_bytes}
use Rattle.std.proofs.lemmas.Result.{IfOk-weaker}
use Rattle.std.proofs.lemmas.Str.{IsUtf8-string_bytes}
use Rattle.serde_json.specs.View as json
use Rattle.yschema_model.specs.View as schema_view
use Rattle.yinst_tree.specs.View.{tree_view}
use Rattle.yschema_model.proofs.CallerLemmas.{numbered, names_differ, leafs_are_bare, not_deep, low_enough}
use Rattle.yinst_tree.proofs.WriteLemmas.{text_of, text_read}
use Rattle.yinst_tree.proofs.writing.write.Goals as goal

pub returns-clause-text : goal.returns-clause-text
returns-clause-text c =
    let s = c.args.schema.now in
    IfOk-weaker c.to_string.result _ _ (λ text. text_of (schema_view.view s) (tree_view c.args.tree.now) (json.view c.in_ok-value_of_tree.field-0) (string_bytes text)
    (numbered s) c.in_ok-value_of_tree.ensures)
    c.to_string.ensures.text

pub returns-clause-reads_back : goal.returns-clause-reads_back
returns-clause-reads_back c =
    let s = c.args.schema.now in
    IfOk-weaker c.to_string.result _ _ (λ text reads. text_read (schema_view.view s) (tree_view c.args.tree.now) (json.view c.in_ok-value_of_tree.field-0) (string_bytes text)
    (numbered s) (names_differ s) (leafs_are_bare s) (not_deep s) (low_enough s) c.in_ok-value_of_tree.ensures (IsUtf8-string_bytes text) reads)
    c.to_string.ensures.reads_back
