use Rattle.std.proofs.Common.{sym, ap, ◌∙◌}
use Rattle.yspec.specs.edit.Edit.{edit_at}
use Rattle.yspec.specs.edit.Editing.{created, within_limit, with_branch}
use Rattle.yschema_model.specs.View as schema_view
use Rattle.yinst_tree.specs.View.{tree_view}
use Rattle.yinst.specs.Locating.{spots_view, located_view}
use Rattle.yinst.specs.Rows.{branch_view}
use Rattle.yinst_path.proofs.AnswerLemmas.{answers_same}
use Rattle.yinst.proofs.ApplyLemmas.{created_so}
use Rattle.yinst.proofs.applying.create.Goals as goal

pub returns-in-Ok : goal.returns-in-Ok
returns-in-Ok c =
    let s = schema_view.view c.args.schema.now in
    let tree = tree_view c.args.tree.now in
    let t = located_view s c.args.target.now in
    let b = branch_view c.in-Ok.branch in
    let above = spots_view c.as_slice.result.now in
    answers_same tree_view c.tree_within_limit.result (created s tree c.args.value.now t) (within_limit (edit_at above (with_branch b) tree))
    (created_so s tree c.args.value.now t b above (sym c.is_there.ensures ∙ c.if-is_there.false) c.in-Ok.ensures (ap spots_view c.as_slice.ensures.value)) c.tree_within_limit.ensures
