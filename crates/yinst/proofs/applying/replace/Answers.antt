use Rattle.std.proofs.Common.{ap}
use Rattle.yspec.specs.edit.Edit.{edit_at}
use Rattle.yspec.specs.edit.Editing.{replaced, within_limit, with_instead}
use Rattle.yschema_model.specs.View as schema_view
use Rattle.yinst_tree.specs.View.{tree_view}
use Rattle.yinst.specs.Locating.{spot_view, spots_view, located_view}
use Rattle.yinst.specs.Rows.{branch_view}
use Rattle.yinst_path.proofs.AnswerLemmas.{answers_same}
use Rattle.yinst.proofs.ApplyLemmas.{replaced_so}
use Rattle.yinst.proofs.applying.replace.Goals as goal

pub returns-in-Ok-part_at : goal.returns-in-Ok-part_at
returns-in-Ok-part_at c =
    let s = schema_view.view c.args.schema.now in
    let tree = tree_view c.args.tree.now in
    let t = located_view s c.args.target.now in
    let step = spot_view c.in-Ok.spot in
    let b = branch_view c.in-Ok-part_at.branch in
    let above = spots_view c.as_slice.result.now in
    answers_same tree_view c.tree_within_limit.result (replaced s tree c.args.value.now t) (within_limit (edit_at above (with_instead step b) tree))
    (replaced_so s tree c.args.value.now t step b above c.in-Ok.ensures c.in-Ok-part_at.ensures (ap spots_view c.as_slice.ensures.value)) c.tree_within_limit.ensures
