use Rattle.std.proofs.Common.{None, sym, ap, ap₂, ◌∙◌}
use Rattle.serde_json.specs.View as json
use Rattle.serde_json.proofs.Views.{view-Object}
use Rattle.yspec.specs.Forest.{end}
use Rattle.yschema_model.specs.View as schema_view
use Rattle.yinst_tree.specs.View.{place_view, row_view, tree_view}
use Rattle.yinst_tree.specs.Taking.{Taken, taken}
use Rattle.yinst_tree.proofs.ApartLemmas.{top_apart, nodes_apart}
use Rattle.yinst_tree.proofs.TakingLemmas.{taken_is}
use Rattle.yinst_tree.proofs.ReadLemmas.{tree_right, tree_wrong}
use Rattle.yinst_tree.proofs.reading.tree_of.Goals as goal

pub returns-in-Ok : goal.returns-in-Ok
returns-in-Ok c =
    let s = schema_view.view c.args.schema.now in
    let ms = json.members_view c.in-Object.members.entries in
    tree_right s (json.view c.args.value) ms (place_view c.new-place.result.items) (tree_view c.new.result) c.in-Ok.field-0
    (ap json.view c.in-Object.is ∙ view-Object c.in-Object.members) (ap place_view c.new-place.ensures.items) c.in-Ok.ensures.told
    (c.new.ensures ∙ (sym (ap (λ (t : Taken). t.0) c.in_ok-put_rows-in-Ok.ensures)
    ∙ (ap₂ (λ vs f. (taken s None f (row_view vs, ms)).0) c.in_ok-row-in-Ok.ensures.items c.roots.ensures
    ∙ taken_is s None s.nodes end ms (top_apart c.args.schema.now None) (nodes_apart c.args.schema.now))))

pub returns : goal.returns
returns c =
    tree_wrong (schema_view.view c.args.schema.now) (json.view c.args.value) (json.members_view c.in-Object.members.entries) (place_view c.new-place.result.items) c.in-Err.fault
    (ap json.view c.in-Object.is ∙ view-Object c.in-Object.members) (ap place_view c.new-place.ensures.items) c.in-Err.ensures.told
