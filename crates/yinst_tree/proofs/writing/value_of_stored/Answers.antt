use Rattle.std.proofs.Common.{sym, ap, ◌∙◌, option_map}
use Rattle.yspec.specs.schema.Schema.{node_at, children_of}
use Rattle.yschema_model.specs.View as schema_view
use Rattle.yschema_model.specs.Layout.{node_view}
use Rattle.serde_json.specs.View as json
use Rattle.serde_json.proofs.Views.{view-Object}
use Rattle.yinst_tree.specs.View.{view, row_view}
use Rattle.yinst_tree.proofs.NodeTextLemmas.{inner_written}
use Rattle.yinst_tree.proofs.writing.value_of_stored.Goals as goal

pub returns : goal.returns
returns c sorted =
    let s = schema_view.view c.args.schema.now in
    let st = view c.args.stored.now in
    view-Object c.in_ok-members_of.field-0 ∙ inner_written s st.0 st.1 (row_view c.below-below.result.now) (node_view c.id.result.0 c.in-Some.node.now) c.children-children.result (json.members_view c.in_ok-members_of.field-0.entries)
    (ap (node_at s) (sym c.id.ensures) ∙ (sym c.kind.ensures ∙ ap (option_map (λ n. node_view c.id.result.0 n.now)) c.in-Some.is))
    (sym c.if-has_value.ensures)
    (c.children-children.ensures ∙ ap (children_of s) c.id-2.ensures) c.below-below.ensures.below c.in_ok-members_of.ensures sorted
