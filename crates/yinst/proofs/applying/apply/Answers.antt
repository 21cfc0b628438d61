use Rattle.yspec.specs.document.Fitting.{Fits}
use Rattle.yspec.specs.document.Writing.{IsDocument}
use Rattle.yspec.specs.edit.Editing.{applied}
use Rattle.yspec.proofs.EditProofs.FittingEditLemmas.{edit_fits, edit_whole}
use Rattle.yschema_model.specs.View.{view}
use Rattle.yschema_model.proofs.CallerLemmas.{numbered, names_differ, leafs_are_bare}
use Rattle.yinst_tree.specs.View.{tree_view}
use Rattle.yinst_path.specs.EditView.{edit_view}
use Rattle.yinst.proofs.EditLemmas.{if_given}
use Rattle.yinst.proofs.applying.apply.Goals as goal

pub returns-clause-fitting : goal.returns-clause-fitting
returns-clause-fitting c fits =
    let s = view c.args.schema.now in
    let before = tree_view c.args.tree.now in
    let edit = edit_view c.args.edit.now in
    if_given (Fits s) c.edited_tree.result (applied s before edit) c.edited_tree.ensures (edit_fits s before edit (numbered c.args.schema.now) fits)

pub returns-clause-whole : goal.returns-clause-whole
returns-clause-whole c whole =
    let s = view c.args.schema.now in
    let before = tree_view c.args.tree.now in
    let edit = edit_view c.args.edit.now in
    if_given (IsDocument s) c.edited_tree.result (applied s before edit) c.edited_tree.ensures
    (edit_whole s before edit (numbered c.args.schema.now) (names_differ c.args.schema.now) (leafs_are_bare c.args.schema.now) whole)
